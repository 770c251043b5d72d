-- The bounds of what parsing and the next line answer, for whoever calls them. Assumes nothing.
use Rattle.std.specs.Prelude.{◌≡◌, ◌++◌, ◌+◌, ◌<◌, ◌≤◌}
use Rattle.basics.proofs.Words.{refl, Bool, true, false, List, Option, some, none, ℕ, arith, length, drop, length-map, length-take, length-drop, leb, leb-true, leb-false}
use Rattle.std.specs.Prelude.{Option as Answer, Some, None}
use Rattle.lines.specs.declared.Parsed.{Parsed}
use Rattle.lines.specs.declared.Next.{Next}
use Rattle.writing.specs.Text.{space, line_end, before, after}
use Rattle.writing.specs.Decimal.{digit_value, value_of}
use Rattle.lines.specs.Parsing.{is_ranking_text, symbols_in, is_word_text, parsed_parts, parsed_line, parsed_answer}
use Rattle.lines.specs.Input.{kept, next_of}
use Rattle.writing.proofs.Cutting.{before_short, after_short}
use Rattle.lines.proofs.Forms.{line_long, line_parts, parts_unranked, parts_unworded, parts_formed, ranking_digits, word_symbols}
use Rattle.lines.specs.declared.Next.TheVariants as next

-- a line's bytes so far are no more than are kept; the next line starts after this one, and no later than the piece ends
pub record NextBounds (from : ℕ) (piece : List ℕ) (answer : Next) : Type 0 where
  pub line_length : (n at : ℕ) → answer ≡ next.Line n at → n ≤ 201
  pub line_after : (n at : ℕ) → answer ≡ next.Line n at → from < at
  pub line_within : (n at : ℕ) → answer ≡ next.Line n at → at ≤ length piece
  pub open_length : (n : ℕ) → answer ≡ next.Open n → n ≤ 201

module _ (held : List ℕ) (from : ℕ) (piece : List ℕ) (within : from ≤ length piece) where
  -- the line's bytes in the piece, and how many are kept of it so far
  text : List ℕ
  text = before line_end (drop from piece)

  so_far : ℕ
  so_far = length (kept (held ++ text))

  few : so_far ≤ 201
  unfolding so_far
  few = simp length-take (omega arith)

  open_bounds : NextBounds from piece (next.Open so_far)
  open_bounds =
      record {
        line_length = λ n at h. let z : ◌≡◌ {A = ℕ} 0 1 = cc in absurd (omega arith);
        line_after = λ n at h. let z : ◌≡◌ {A = ℕ} 0 1 = cc in absurd (omega arith);
        line_within = λ n at h. let z : ◌≡◌ {A = ℕ} 0 1 = cc in absurd (omega arith);
        open_length = λ n h. let e : n ≡ so_far = cc in omega (arith, few);
      }

  line_bounds : length text < length (drop from piece) → NextBounds from piece (next.Line so_far (from + length text + 1))
  line_bounds short =
      record {
        line_length = λ n at h. let e : n ≡ so_far = cc in omega (arith, few);
        line_after = λ n at h. let e : at ≡ from + length text + 1 = cc in omega arith;
        line_within = λ n at h. let e : at ≡ from + length text + 1 = cc in omega (arith, length-drop from piece);
        open_length = λ n h. let z : ◌≡◌ {A = ℕ} 0 1 = cc in absurd (omega arith);
      }

  pub next_bounds : NextBounds from piece (next_of held from (drop from piece))
  unfolding next_of so_far text
  next_bounds = go (after line_end (drop from piece)) refl
    where
      go : (o : Option (List ℕ)) → after line_end (drop from piece) ≡ o → NextBounds from piece (next_of held from (drop from piece))
      go none e = rw (next_of, e) open_bounds
      go (some others) e = rw (next_of, e) (line_bounds (before_short line_end (drop from piece) e))

-- a line that parses has a ranking of at most 9 bytes and a word of at most 100
pub record ParsedBounds (answer : Answer Parsed) : Type 0 where
  pub ranking_length : (p : Parsed) → answer ≡ Some p → p.ranking ≤ 9
  pub word_length : (p : Parsed) → answer ≡ Some p → p.word ≤ 100

bad_bounds : ParsedBounds None
bad_bounds =
    record {
      ranking_length = λ p h. let z : ◌≡◌ {A = ℕ} 0 1 = cc in absurd (omega arith);
      word_length = λ p h. let z : ◌≡◌ {A = ℕ} 0 1 = cc in absurd (omega arith);
    }

good_bounds : (m n : ℕ) → m ≤ 9 → n ≤ 100 → ParsedBounds (Some (record { ranking = m; word = n }))
good_bounds m n hm hn =
    record {
      ranking_length = λ p h. let e : p.ranking ≡ m = cc in omega arith;
      word_length = λ p h. let e : p.word ≡ n = cc in omega arith;
    }

parts_bounds : (digits symbols : List ℕ) → length symbols ≤ 200 → ParsedBounds (parsed_answer (parsed_parts digits (some symbols)))
parts_bounds digits symbols short = go (is_ranking_text digits) refl (is_word_text symbols) refl
  where
    go : (s : Bool) → is_ranking_text digits ≡ s → (t : Bool) → is_word_text symbols ≡ t → ParsedBounds (parsed_answer (parsed_parts digits (some symbols)))
    go false e t d = rw (parts_unranked digits symbols e) bad_bounds
    go true e false d = rw (parts_unworded digits symbols d) bad_bounds
    go true e true d =
        rw (parts_formed digits symbols e d, length-map digits digit_value, length-map (symbols_in symbols) value_of)
        (good_bounds (length digits) (length (symbols_in symbols)) (ranking_digits digits e).no_more (omega (arith, word_symbols symbols d)))

pub parsed_bounds : (l : List ℕ) → ParsedBounds (parsed_answer (parsed_line l))
parsed_bounds l = go (leb (length l) 200) refl (after space l) refl
  where
    go : (t : Bool) → leb (length l) 200 ≡ t → (o : Option (List ℕ)) → after space l ≡ o → ParsedBounds (parsed_answer (parsed_line l))
    go false e o d = rw (line_long l (leb-false (length l) 200 e)) bad_bounds
    go true e none d = rw (line_parts l (leb-true (length l) 200 e), d) bad_bounds
    go true e (some symbols) d =
        let short = leb-true (length l) 200 e in
        rw (line_parts l short, d) (parts_bounds (before space l) symbols (omega (arith, after_short space l d)))
