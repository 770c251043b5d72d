-- A lesson's totals, for every list of lines; and that the output is the same however the input is cut into pieces.
use Rattle.std.specs.Prelude.{◌≡◌, ◌∷◌, ◌++◌, ◌+◌, ◌<◌, ◌≤◌}
use Rattle.basics.proofs.Words.{refl, ap, sym, ◌∙◌, Bool, true, false, not, List, [], map, append_assoc, append-nil, Option, some, none, ℕ, zero, suc, arith, length, get_or, take, drop, length-map, length-take, ext_get_or, get_or-take, add-zero, min, leb-true, leb-false, joined, those, numbers_below, map_at, length_numbers, number_at}
use Rattle.lines.specs.Parsing.{Request, parsed_line}
use Rattle.writing.specs.Writing.{refused_line, closing_lines}
use Rattle.lines.specs.Input.{lines_of, kept}
use Rattle.lines.specs.Taking.{ended_lines, held_after, lines_taken}
use Rattle.lines.specs.LinesOfPieces.{lines_of_pieces, kept_parsed}
use Rattle.tally.specs.declared.Tally.{Tally}
use Rattle.lesson.specs.Printed.{reply, printed}
use Rattle.lesson.specs.Tally.{request_counts, line_counts, no_lines, counted, is_full, past_text, line_tally, line_text, lines_tally, lines_text, shown_machines, closing_text, Fits}
use Rattle.lesson.specs.TallyLaws.{added_length, added_at, counted_past, counted_lines_lem, full_at, open_at, tally_full, tally_open, text_full, text_open, passed_tally, passed_text, tally_append, shown_few}
use Rattle.pieces.specs.Pieces.{printed_pieces}
use Rattle.session.specs.Output.{is_answered, answered_among, refused_among, count_in, total_of, totals, closing, past_line, lesson_output, output, counted_lines, Reads, Finishes}

-- the lines of a lesson counted one after another, with no end
unfoldable pub tallied : List ℕ → Tally → List (List ℕ) → Tally
tallied card t [] = t
tallied card t (l ∷ ls) = tallied card (counted t (line_counts card l)) ls

-- lines that pass a test, and lines that do not
module _ {A : Type 0} (f : A → Bool) (x : A) (xs : List A) where
  those_in : f x ≡ true → those f (x ∷ xs) ≡ x ∷ those f xs
  unfolding those
  those_in e = rw (those, e)

  those_out : f x ≡ false → those f (x ∷ xs) ≡ those f xs
  unfolding those
  those_out e = rw (those, e)

module _ (card : List ℕ) where
  -- a tally after a line, and after lines
  pub record Counts (t : Tally) (ls : List (List ℕ)) (u : Tally) : Type 0 where
    pub answered : u.answered ≡ t.answered + length (answered_among card ls)
    pub refused : u.refused ≡ t.refused + length (refused_among card ls)
    pub places : length u.totals ≡ length t.totals
    pub sums : (i : ℕ) → i < length t.totals → get_or u.totals i 0 ≡ get_or t.totals i 0 + total_of card i (answered_among card ls)

  none_counted : (t : Tally) → Counts t [] t
  unfolding those total_of
  none_counted t = record { answered = sym (add-zero t.answered); refused = sym (add-zero t.refused); places = refl; sums = λ i h. sym (add-zero (get_or t.totals i 0)) }

  total_cons : (i : ℕ) (l : List ℕ) (ls : List (List ℕ)) → total_of card i (l ∷ ls) ≡ count_in i (line_counts card l) + total_of card i ls
  unfolding total_of
  total_cons i l ls = refl

  -- the first line is answered, or it is refused
  one_more : (t : Tally) (l : List ℕ) (ls : List (List ℕ)) (o : Option (List ℕ)) → line_counts card l ≡ o → {u : Tally} → Counts (counted t o) ls u → Counts t (l ∷ ls) u
  one_more t l ls none e k =
      let miss : is_answered card l ≡ false = rw e in
      let hit : not (is_answered card l) ≡ true = rw e in
      let A = those_out (is_answered card) l ls miss in
      let R = those_in (λ m. not (is_answered card m)) l ls hit in
      record {
        answered = omega (arith, k.answered, ap length A);
        refused = omega (arith, k.refused, ap length R);
        places = k.places;
        sums = λ i h. omega (arith, k.sums i h, ap (total_of card i) A);
      }
  one_more t l ls (some counts) e k =
      let hit : is_answered card l ≡ true = rw e in
      let miss : not (is_answered card l) ≡ false = rw e in
      let A = those_in (is_answered card) l ls hit in
      let R = those_out (λ m. not (is_answered card m)) l ls miss in
      record {
        answered = omega (arith, k.answered, ap length A);
        refused = omega (arith, k.refused, ap length R);
        places = k.places ∙ added_length t.totals counts;
        sums = λ i h.
            let s = k.sums i (rw (added_length t.totals counts) h) in
            let here : count_in i (line_counts card l) ≡ get_or counts i 0 = rw e in
            omega (arith, s, added_at t.totals counts i h, ap (total_of card i) A, total_cons i l (answered_among card ls), here);
      }

  -- the theorem: after every list of lines the tally has how many are answered, how many refused, and of each machine the sum of
  -- its counts in the answered lines
  pub counts_lines : (t : Tally) (ls : List (List ℕ)) → Counts t ls (tallied card t ls)
  unfolding tallied
  counts_lines t [] = none_counted t
  counts_lines t (l ∷ ls) = one_more t l ls (line_counts card l) refl (counts_lines (counted t (line_counts card l)) ls)

  -- every line is answered or refused, a thousand at most are counted, and a bad line is refused
  pub answered_and_refused : (ls : List (List ℕ)) → length (answered_among card ls) + length (refused_among card ls) ≡ length ls
  unfolding those
  answered_and_refused [] = refl
  answered_and_refused (l ∷ ls) = go (is_answered card l) refl (answered_and_refused ls)
    where
      go : (b : Bool) → is_answered card l ≡ b → length (answered_among card ls) + length (refused_among card ls) ≡ length ls
          → length (answered_among card (l ∷ ls)) + length (refused_among card (l ∷ ls)) ≡ suc (length ls)
      go true e i = let f : not (is_answered card l) ≡ false = rw e in rw (those_in (is_answered card) l ls e, those_out (λ m. not (is_answered card m)) l ls f) (omega arith)
      go false e i = let f : not (is_answered card l) ≡ true = rw e in rw (those_out (is_answered card) l ls e, those_in (λ m. not (is_answered card m)) l ls f) (omega arith)

  pub a_thousand_at_most : (ls : List (List ℕ)) → length (answered_among card (take 1000 ls)) + length (refused_among card (take 1000 ls)) ≤ 1000
  a_thousand_at_most ls = omega (arith, answered_and_refused (take 1000 ls), length-take 1000 ls)

  pub bad_line_refused : (l : List ℕ) → parsed_line l ≡ none → is_answered card l ≡ false
  bad_line_refused l e = rw e

  -- a total is the sum of its machine's counts in the answered lines
  pub total_at : (ls : List (List ℕ)) (i : ℕ) → i < shown_machines card → get_or (totals card ls) i 0 ≡ total_of card i (answered_among card ls)
  unfolding totals
  total_at ls i h =
      let f : ℕ → ℕ = λ machine. total_of card machine (answered_among card ls) in
      map_at f (numbers_below (shown_machines card)) i (rw (length_numbers (shown_machines card)) h) 0 0 ∙ ap f (number_at (shown_machines card) i 0 h)

  pub total_count : (ls : List (List ℕ)) → length (totals card ls) ≡ shown_machines card
  unfolding totals
  total_count ls = length-map (numbers_below (shown_machines card)) (λ machine. total_of card machine (answered_among card ls)) ∙ length_numbers (shown_machines card)

  -- so the closing lines of the tally are those of the lesson
  zeros : (i : ℕ) → get_or no_lines.totals i 0 ≡ 0
  zeros zero = refl
  zeros (suc zero) = refl
  zeros (suc (suc zero)) = refl
  zeros (suc (suc (suc zero))) = refl
  zeros (suc (suc (suc (suc zero)))) = refl
  zeros (suc (suc (suc (suc (suc zero))))) = refl
  zeros (suc (suc (suc (suc (suc (suc i)))))) = refl

  totals_shown : (ls : List (List ℕ)) → take (shown_machines card) (tallied card no_lines ls).totals ≡ totals card ls
  totals_shown ls =
      let k = counts_lines no_lines ls in
      let T = (tallied card no_lines ls).totals in
      let long : length (take (shown_machines card) T) ≡ shown_machines card = length-take (shown_machines card) T ∙ omega (arith, k.places, shown_few card) in
      ext_get_or 0 (take (shown_machines card) T) (totals card ls) (long ∙ sym (total_count ls))
      (λ i h.
      let small : i < shown_machines card = omega (arith, long) in
      get_or-take (shown_machines card) T i 0 small
      ∙ k.sums i (omega (arith, shown_few card))
      ∙ omega (arith, zeros i, total_at ls i small))

  closing_told : (ls : List (List ℕ)) → closing_text card (tallied card no_lines ls) ≡ closing card ls
  unfolding closing_text closing
  closing_told ls =
      let k = counts_lines no_lines ls in
      let a : (tallied card no_lines ls).answered ≡ length (answered_among card ls) = omega (arith, k.answered) in
      let r : (tallied card no_lines ls).refused ≡ length (refused_among card ls) = omega (arith, k.refused) in
      ap (λ (n : ℕ). closing_lines n (tallied card no_lines ls).refused (take (shown_machines card) (tallied card no_lines ls).totals)) a
      ∙ ap (λ (n : ℕ). closing_lines (length (answered_among card ls)) n (take (shown_machines card) (tallied card no_lines ls).totals)) r
      ∙ ap (closing_lines (length (answered_among card ls)) (length (refused_among card ls))) (totals_shown ls)

  -- where so many lines are still to be counted: those are, the next is refused, and the closing lines are of those counted
  record Limited (k : ℕ) (t : Tally) (ls : List (List ℕ)) : Type 0 where
    text : lines_text card t ls ≡ joined (printed card) (take k ls) ++ past_line (drop k ls)
    end : closing_text card (lines_tally card t ls) ≡ closing_text card (tallied card t (take k ls))

  limited : (k : ℕ) (t : Tally) (ls : List (List ℕ)) → t.past ≡ false → t.answered + t.refused + k ≡ 1000 → Limited k t ls
  unfolding lines_text lines_tally joined tallied closing_text
  limited zero t [] p e = record { text = refl; end = refl }
  limited zero t (l ∷ ls) p e =
      let f = full_at t (omega arith) in
      let s = tally_full card t l f in
      record {
        text =
            ap (λ (x : List ℕ). x ++ lines_text card (line_tally card t l) ls) (text_full card t l f ∙ ap past_text p)
            ∙ ap (λ (u : Tally). refused_line 22 ++ lines_text card u ls) s
            ∙ ap (λ (x : List ℕ). refused_line 22 ++ x) (passed_text card t f ls)
            ∙ append-nil (refused_line 22);
        end = ap (λ (u : Tally). closing_text card (lines_tally card u ls)) s ∙ ap (closing_text card) (passed_tally card t f ls);
      }
  limited (suc k) t [] p e = record { text = refl; end = refl }
  limited (suc k) t (l ∷ ls) p e =
      let f = open_at t (omega arith) in
      let s = tally_open card t l f in
      let u = counted t (line_counts card l) in
      let r = limited k u ls (counted_past t (line_counts card l) ∙ p) (omega (arith, counted_lines_lem t (line_counts card l))) in
      record {
        text =
            ap (λ (x : List ℕ). x ++ lines_text card (line_tally card t l) ls) (text_open card t l f)
            ∙ ap (λ (v : Tally). printed card l ++ lines_text card v ls) s
            ∙ ap (λ (x : List ℕ). printed card l ++ x) r.text
            ∙ sym (append_assoc (printed card l) (joined (printed card) (take k ls)) (past_line (drop k ls)));
        end = ap (λ (v : Tally). closing_text card (lines_tally card v ls)) s ∙ r.end;
      }

  lines_output : (ls : List (List ℕ)) → lines_text card no_lines ls ++ closing_text card (lines_tally card no_lines ls) ≡ lesson_output card ls
  unfolding lesson_output
  lines_output ls =
      let r = limited 1000 no_lines ls refl refl in
      ap (λ (x : List ℕ). x ++ closing_text card (lines_tally card no_lines ls)) r.text
      ∙ ap (λ (x : List ℕ). joined (printed card) (take 1000 ls) ++ past_line (drop 1000 ls) ++ x) (r.end ∙ closing_told (take 1000 ls))

  -- lines after lines
  text_append : (t : Tally) (xs ys : List (List ℕ)) → lines_text card t (xs ++ ys) ≡ lines_text card t xs ++ lines_text card (lines_tally card t xs) ys
  unfolding lines_tally lines_text
  text_append t [] ys = refl
  text_append t (x ∷ xs) ys =
      ap (λ (r : List ℕ). line_text card t x ++ r) (text_append (line_tally card t x) xs ys)
      ∙ sym (append_assoc (line_text card t x) (lines_text card (line_tally card t x) xs) (lines_text card (lines_tally card (line_tally card t x) xs) ys))

  -- what is printed for lines, and then the closing lines
  whole : Tally → List (List ℕ) → List ℕ
  whole t ls = lines_text card t ls ++ closing_text card (lines_tally card t ls)

  pieces_taken : (t : Tally) (held : List ℕ) (pieces : List (List ℕ)) → printed_pieces card t held pieces ≡ whole t (lines_taken held pieces)
  unfolding printed_pieces lines_taken whole
  pieces_taken t held [] = refl
  pieces_taken t held (piece ∷ pieces) =
      let E = ended_lines held piece in
      let u = lines_tally card t E in
      let R = lines_taken (held_after held piece) pieces in
      ap (λ (x : List ℕ). lines_text card t E ++ x) (pieces_taken u (held_after held piece) pieces)
      ∙ sym (append_assoc (lines_text card t E) (lines_text card u R) (closing_text card (lines_tally card u R)))
      ∙ ap (λ (x : List ℕ). x ++ closing_text card (lines_tally card u R)) (sym (text_append t E R))
      ∙ ap (λ (v : Tally). lines_text card t (E ++ R) ++ closing_text card v) (sym (tally_append card t E R))

  -- what is kept of a line counts as the line, and prints the same
  kept_tally : (t : Tally) (l : List ℕ) → line_tally card t (kept l) ≡ line_tally card t l
  kept_tally t l = go (is_full t) refl
    where
      go : (b : Bool) → is_full t ≡ b → line_tally card t (kept l) ≡ line_tally card t l
      go true f = tally_full card t (kept l) f ∙ sym (tally_full card t l f)
      go false f = tally_open card t (kept l) f ∙ ap (λ (o : Option Request). counted t (request_counts card o)) (kept_parsed l) ∙ sym (tally_open card t l f)

  kept_text : (t : Tally) (l : List ℕ) → line_text card t (kept l) ≡ line_text card t l
  kept_text t l = go (is_full t) refl
    where
      go : (b : Bool) → is_full t ≡ b → line_text card t (kept l) ≡ line_text card t l
      go true f = text_full card t (kept l) f ∙ sym (text_full card t l f)
      go false f = text_open card t (kept l) f ∙ ap (reply card) (kept_parsed l) ∙ sym (text_open card t l f)

  kept_lines_tally : (t : Tally) (ls : List (List ℕ)) → lines_tally card t (map kept ls) ≡ lines_tally card t ls
  unfolding lines_tally
  kept_lines_tally t [] = refl
  kept_lines_tally t (l ∷ ls) = ap (λ (u : Tally). lines_tally card u (map kept ls)) (kept_tally t l) ∙ kept_lines_tally (line_tally card t l) ls

  kept_lines_text : (t : Tally) (ls : List (List ℕ)) → lines_text card t (map kept ls) ≡ lines_text card t ls
  unfolding lines_text
  kept_lines_text t [] = refl
  kept_lines_text t (l ∷ ls) =
      ap (λ (x : List ℕ). x ++ lines_text card (line_tally card t (kept l)) (map kept ls)) (kept_text t l)
      ∙ ap (λ (u : Tally). line_text card t l ++ lines_text card u (map kept ls)) (kept_tally t l)
      ∙ ap (λ (x : List ℕ). line_text card t l ++ x) (kept_lines_text (line_tally card t l) ls)

  -- the theorem: however an input is cut into pieces, what is printed for them in turn is the output for the input
  pub output_of_pieces : (pieces : List (List ℕ)) → printed_pieces card no_lines [] pieces ≡ output card (joined (λ p. p) pieces)
  unfolding whole
  output_of_pieces pieces =
      let ls = lines_of (joined (λ p. p) pieces) in
      pieces_taken no_lines [] pieces
      ∙ ap (whole no_lines) (lines_of_pieces pieces)
      ∙ ap (λ (x : List ℕ). x ++ closing_text card (lines_tally card no_lines (map kept ls))) (kept_lines_text no_lines ls)
      ∙ ap (λ (u : Tally). lines_text card no_lines ls ++ closing_text card u) (kept_lines_tally no_lines ls)
      ∙ lines_output ls

  -- the theorem: from no line and nothing held, what is printed for the lines that end in the bytes read, and then the text that is
  -- left to print, are the output for these bytes
  pub output_left : {out : List ℕ} {r : ℕ} (f : Finishes card [] no_lines out r) → 0 < r
      → lines_text card no_lines (ended_lines [] f.read) ++ take r out ≡ output card f.read
  unfolding printed_pieces joined
  output_left f h =
      ap (λ (x : List ℕ). lines_text card no_lines (ended_lines [] f.read) ++ x) (f.text h)
      ∙ output_of_pieces (f.read ∷ [])
      ∙ ap (output card) (append-nil f.read)

  -- one line more, up to the thousandth
  line_counted : (t : Tally) (l : List ℕ) → counted_lines t ≤ 1000 → counted_lines (line_tally card t l) ≡ min 1000 (counted_lines t + 1)
  unfolding is_full
  line_counted t l few = go (is_full t) refl
    where
      go : (b : Bool) → is_full t ≡ b → counted_lines (line_tally card t l) ≡ min 1000 (counted_lines t + 1)
      go true f = ap counted_lines (tally_full card t l f) ∙ omega (arith, leb-true 1000 (counted_lines t) f)
      go false f = ap counted_lines (tally_open card t l f) ∙ counted_lines_lem t (line_counts card l) ∙ omega (arith, leb-false 1000 (counted_lines t) f)

  lines_counted : (t : Tally) (ls : List (List ℕ)) → counted_lines t ≤ 1000 → counted_lines (lines_tally card t ls) ≡ min 1000 (counted_lines t + length ls)
  unfolding lines_tally
  lines_counted t [] few = omega arith
  lines_counted t (l ∷ ls) few =
      let one = line_counted t l few in
      lines_counted (line_tally card t l) ls (omega (arith, one)) ∙ omega (arith, one)

  -- the theorem: whatever is read, no line is forgotten. In the end the lines counted are those counted at the start and those that end in
  -- the bytes read, up to a thousand
  pub none_forgotten : {held line : List ℕ} {n : ℕ} {t u : Tally} (r : Reads card held t line n u true) → Fits t
      → counted_lines u ≡ min 1000 (counted_lines t + length (ended_lines held r.read))
  none_forgotten {held} {t = t} r fits = ap counted_lines (r.answers.lines_counted refl) ∙ lines_counted t (ended_lines held r.read) fits.few
