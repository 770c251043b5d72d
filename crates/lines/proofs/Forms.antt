-- Laws of the forms of a line's parts. Assumes nothing.
use Rattle.std.specs.Prelude.{◌≡◌, ◌&&◌, ◌∷◌, ◌+◌, ◌-◌, ◌*◌, ◌<◌, ◌≤◌}
use Rattle.basics.proofs.Words.{refl, ap, sym, ◌∙◌, Bool, true, false, and-false, List, [], map, some, none, ℕ, zero-le, arith, length, length-map, take, drop, leb, suc-ne-zero, all_of, leb-true, le-leb, lt-leb, left, right}
use Rattle.std.specs.Prelude.{Option as Answer, Some, None}
use Rattle.lines.specs.declared.Parsed.{Parsed}
use Rattle.writing.specs.Text.{space, comma, before, after, segments}
use Rattle.writing.specs.Decimal.{is_digit, digit_value, value_of}
use Rattle.writing.specs.Buffers.{at_front}
use Rattle.lines.specs.Parsing.{is_ranking_text, is_symbol_text, symbols_in, is_word_text, request_of, parsed_parts, parsed_line, parsed_answer, ranking_of, word_of}
use Rattle.writing.proofs.Lists.{all_first, all_rest}
use Rattle.writing.proofs.Cutting.{take_before, after_none, after_some, part_rest, lengths, segments_lengths}

-- 1 to so many digits
abbrev pub some_digits : ℕ → List ℕ → Bool
some_digits most l = leb 1 (length l) && leb (length l) most && all_of is_digit l

pub record SomeDigits (most : ℕ) (l : List ℕ) : Type 0 where
  pub one : 1 ≤ length l
  pub no_more : length l ≤ most
  pub digits : all_of is_digit l ≡ true

pub some_digits_lem : (most : ℕ) (l : List ℕ) → some_digits most l ≡ true → SomeDigits most l
some_digits_lem most l h =
    let lengths : (leb 1 (length l) && leb (length l) most) ≡ true = left (leb 1 (length l) && leb (length l) most) (all_of is_digit l) h in
    record {
      one = leb-true 1 (length l) (left (leb 1 (length l)) (leb (length l) most) lengths);
      no_more = leb-true (length l) most (right (leb 1 (length l)) (leb (length l) most) lengths);
      digits = right (leb 1 (length l) && leb (length l) most) (all_of is_digit l) h;
    }

module _ (l : List ℕ) where
  pub symbol_passes : some_digits 3 l ≡ true → leb (value_of l) 255 ≡ is_symbol_text l
  unfolding is_symbol_text
  symbol_passes h = rw h

  pub symbol_fails : some_digits 3 l ≡ false → false ≡ is_symbol_text l
  unfolding is_symbol_text
  symbol_fails h = rw h

  pub ranking_digits : is_ranking_text l ≡ true → SomeDigits 9 l
  unfolding is_ranking_text
  ranking_digits h = some_digits_lem 9 l h

  pub symbol_digits : is_symbol_text l ≡ true → SomeDigits 3 l
  unfolding is_symbol_text
  symbol_digits h = some_digits_lem 3 l (left (some_digits 3 l) (leb (value_of l) 255) h)

  pub symbol_small : is_symbol_text l ≡ true → value_of l ≤ 255
  unfolding is_symbol_text
  symbol_small h = leb-true (value_of l) 255 (right (some_digits 3 l) (leb (value_of l) 255) h)

-- a word's symbols are at most half as many as its bytes and one
symbols_lengths : (ps : List (List ℕ)) → all_of is_symbol_text ps ≡ true → 2 * length ps ≤ lengths ps
symbols_lengths [] h = zero-le
symbols_lengths (p ∷ ps) h =
    let i = symbols_lengths ps (all_rest is_symbol_text refl h) in
    omega (arith, (symbol_digits p (all_first is_symbol_text refl h)).one)

-- the empty text has no symbols, any other has those between its commas
pub symbols_none : (l : List ℕ) → length l ≡ 0 → symbols_in l ≡ []
unfolding symbols_in
symbols_none [] e = refl
symbols_none (x ∷ l) e = absurd (suc-ne-zero (length l) e)

pub symbols_some : (l : List ℕ) → (length l ≡ 0 → ⊥) → symbols_in l ≡ segments comma l
unfolding symbols_in
symbols_some [] h = absurd (h refl)
symbols_some (x ∷ l) h = refl

pub word_symbols : (l : List ℕ) → is_word_text l ≡ true → 2 * length (symbols_in l) ≤ length l + 1
unfolding symbols_in
word_symbols [] h = zero-le
word_symbols (x ∷ l) h = rw (segments_lengths comma (x ∷ l)) at (symbols_lengths (segments comma (x ∷ l)) h)

-- a line that is parsed: too long; with no space; with the parts before and after the space, which end and start at places
module _ (l : List ℕ) where
  pub line_long : 200 < length l → parsed_line l ≡ none
  unfolding parsed_line
  line_long h = rw (parsed_line, lt-leb (length l) 200 h)

  pub line_parts : length l ≤ 200 → parsed_line l ≡ parsed_parts (before space l) (after space l)
  unfolding parsed_line
  line_parts short = rw (parsed_line, le-leb (length l) 200 short)

  module _ (short : length l ≤ 200) (n : ℕ) (e : n ≡ length (before space l)) where
    pub line_unspaced : n ≡ length l → parsed_line l ≡ none
    line_unspaced h = line_parts short ∙ ap (parsed_parts (before space l)) (after_none space l (sym e ∙ h))

    pub line_spaced : (n ≡ length l → ⊥) → parsed_line l ≡ parsed_parts (take n l) (some (take (length l - (n + 1)) (drop (n + 1) l)))
    line_spaced h = rw (part_rest l (n + 1), e, take_before space l) (line_parts short ∙ ap (parsed_parts (before space l)) (after_some space l (λ k. h (e ∙ k))))

-- the parts of a line
module _ (digits symbols : List ℕ) where
  pub parts_unranked : is_ranking_text digits ≡ false → parsed_parts digits (some symbols) ≡ none
  parts_unranked h = rw (parsed_parts, h)

  pub parts_unworded : is_word_text symbols ≡ false → parsed_parts digits (some symbols) ≡ none
  parts_unworded h = rw (parsed_parts, h, and-false (is_ranking_text digits))

  pub parts_formed : is_ranking_text digits ≡ true → is_word_text symbols ≡ true → parsed_parts digits (some symbols) ≡ some (request_of digits symbols)
  parts_formed h w = rw (parsed_parts, h, w)

-- what parsing answers and what it writes: of a bad line nothing
abbrev pub Parses : Answer Parsed → List ℕ → List ℕ → List ℕ → List ℕ → List ℕ → Type 0
Parses answer l ranking new_ranking word newWord =
    (answer ≡ parsed_answer (parsed_line l)) × ((new_ranking ≡ at_front (ranking_of (parsed_line l)) ranking) × (newWord ≡ at_front (word_of (parsed_line l)) word))

pub unparsed : (l ranking word : List ℕ) → parsed_line l ≡ none → Parses None l ranking ranking word word
unparsed l ranking word e = rw e (refl, (refl, refl))

pub parsed : (l digits symbols ranking word : List ℕ) {new_ranking newWord : List ℕ} {n count : ℕ} → parsed_line l ≡ some (request_of digits symbols)
    → n ≡ length digits → new_ranking ≡ at_front (map digit_value digits) ranking
    → count ≡ length (symbols_in symbols) → newWord ≡ at_front (map value_of (symbols_in symbols)) word
    → Parses (Some (record { ranking = n; word = count })) l ranking new_ranking word newWord
parsed l digits symbols ranking word e n r c w =
    rw e ((λ i. Some (record { ranking = (n ∙ sym (length-map digits digit_value)) i; word = (c ∙ sym (length-map (symbols_in symbols) value_of)) i })), (r, w))
