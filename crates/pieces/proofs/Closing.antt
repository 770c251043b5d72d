-- What is printed after the last piece, and the buffer that it is written to. Assumes nothing.
use Rattle.std.specs.Prelude.{◌≡◌, ◌||◌, ◌∷◌, ◌++◌, ◌⊎◌, ◌+◌, ◌-◌, ◌<◌, ◌≤◌}
use Rattle.basics.proofs.Words.{refl, ap, sym, ◌∙◌, Bool, true, false, not, List, [], append_assoc, append-nil, inl, inr, ℕ, suc, arith, length, take, drop, take-append-drop, length-append, length-take, length-drop, eqb, drop-drop, take_at, drop_at, take-length, drop-length, drop-append-le, length-take-le, suc-ne-zero, ne_eqb, clash, either}
use Rattle.lines.specs.Taking.{last_line}
use Rattle.writing.specs.Buffers.{at_front}
use Rattle.writing.proofs.Texts.{closing_length, answered_length}
use Rattle.tally.specs.declared.Tally.{Tally}
use Rattle.lesson.specs.Printed.{Prints}
use Rattle.lesson.specs.Tally.{is_full, past_text, line_tally, line_text, lines_tally, lines_text, closing_text, shown_machines}
use Rattle.lesson.specs.TallyLaws.{tally_full, text_full}
use Rattle.pieces.specs.Pieces.{printed_pieces}

-- the line past the thousandth, or a write that failed
pub past_written : (past written : Bool) → (past || not written) ≡ true → written ≡ true → past ≡ true
past_written true written h e = refl
past_written false true h e = h
past_written false false h e = e

module _ (card : List ℕ) where
  -- what is printed in the end: past the thousandth line the closing lines, whatever is held
  pub end_past : (t : Tally) (l : List ℕ) → t.past ≡ true → is_full t ≡ true → closing_text card t ≡ printed_pieces card t l []
  unfolding printed_pieces lines_text lines_tally closing_text
  end_past t [] p f = refl
  end_past t (x ∷ l) p f =
      ap (closing_text card) (sym (tally_full card t (x ∷ l) f))
      ∙ ap (λ (k : List ℕ). (k ++ []) ++ closing_text card (line_tally card t (x ∷ l))) (sym (text_full card t (x ∷ l) f ∙ ap past_text p))

  -- so it is where no line is held, and else the line's text comes first
  pub end_closing : (t : Tally) (l : List ℕ) → (t.past ≡ true → is_full t ≡ true) → (t.past || eqb (length l) 0) ≡ true → closing_text card t ≡ printed_pieces card t l []
  unfolding printed_pieces lines_text lines_tally
  end_closing t [] s h = refl
  end_closing t (x ∷ l) s h = go (either t.past (eqb (length (x ∷ l)) 0) h)
    where
      go : (t.past ≡ true) ⊎ (eqb (length (x ∷ l)) 0 ≡ true) → closing_text card t ≡ printed_pieces card t (x ∷ l) []
      go (inl p) = end_past t (x ∷ l) p (s p)
      go (inr e) = absurd (clash e (ne_eqb (suc (length l)) 0 (suc-ne-zero (length l))))

  pub end_line : (t : Tally) (l : List ℕ) → eqb (length l) 0 ≡ false → line_text card t l ++ closing_text card (line_tally card t l) ≡ printed_pieces card t l []
  unfolding printed_pieces lines_text lines_tally
  end_line t [] e = absurd (clash refl e)
  end_line t (x ∷ l) e = ap (λ (k : List ℕ). k ++ closing_text card (line_tally card t (x ∷ l))) (sym (append-nil (line_text card t (x ∷ l))))

  -- the closing lines are never empty
  pub end_text : (t : Tally) (l : List ℕ) → 0 < length (printed_pieces card t l [])
  unfolding printed_pieces closing_text
  end_text t l =
      let u = lines_tally card t (last_line l) in
      omega (
        arith,
        length-append (lines_text card t (last_line l)) (closing_text card u),
        closing_length u.answered u.refused (take (shown_machines card) u.totals),
        answered_length u.answered u.refused,
      )

  pub some_text : (t : Tally) (l : List ℕ) {old new : List ℕ} {n : ℕ} → Prints (printed_pieces card t l []) old new n → 0 < n
  some_text t l p = omega (arith, p.size, end_text t l)

-- the front part of the last buffer, which a line's text is written to, and the room behind the text
module _ (out : List ℕ) (long : length out ≡ 25748) where
  pub front_lent : length (take 25628 out) ≡ 25628
  front_lent = length-take-le 25628 out (omega (arith, long))

  pub front_room : 25628 ≤ length (take 25628 out)
  front_room = omega (arith, front_lent)

  pub room_behind : {text new : List ℕ} {m : ℕ} → Prints text (take 25628 out) new m → length new ≡ length (take 25628 out)
      → 120 ≤ length (take (length (new ++ drop 25628 out) - m) (drop m (new ++ drop 25628 out)))
  room_behind {text} {new} {m} p same =
      let whole = length-append new (drop 25628 out) in
      simp (length-take, length-drop) (omega (arith, p.fits, same, long, front_lent, whole, length-drop 25628 out))

pub room_before : {text old new : List ℕ} {m : ℕ} → Prints text old new m → (rest : List ℕ) → m ≤ length (new ++ rest)
room_before {new = new} p rest = omega (arith, p.fits, length-append new rest)

pub text_fits : {text old new : List ℕ} {m : ℕ} → Prints text old new m → length new ≡ length old → length text ≤ length old
text_fits p same = omega (arith, p.size, p.fits, same)

-- a text written to a front part of a slice
pub front_part : (k : ℕ) (a old : List ℕ) {new : List ℕ} → new ≡ at_front a (take k old) → length a ≤ length (take k old) → new ++ drop k old ≡ at_front a old
front_part k a old e h =
    ap (λ (r : List ℕ). r ++ drop k old) e
    ∙ append_assoc a (drop (length a) (take k old)) (drop k old)
    ∙ ap (λ (r : List ℕ). a ++ r) (sym (drop-append-le (length a) (take k old) (drop k old) h) ∙ ap (drop (length a)) (take-append-drop k old))

-- a text written after another
pub prints_after : (a : List ℕ) {b text old now new : List ℕ} {m n : ℕ} → m ≡ length a → now ≡ at_front a old → Prints b (take (length now - m) (drop m now)) new n → a ++ b ≡ text
    → Prints text old (take m now ++ (new ++ drop (length now - m) (drop m now))) (m + n)
prints_after a {b} {text} {old} {now} {new} {m} {n} e front q whole =
    let rest = drop m now in
    let size : length rest ≡ length now - m = length-drop m now in
    let lent : take (length now - m) rest ≡ rest = ap (λ (j : ℕ). take j rest) (sym size) ∙ take-length rest in
    let none_left : drop (length now - m) rest ≡ [] = ap (λ (j : ℕ). drop j rest) (sym size) ∙ drop-length rest in
    let first : take m now ≡ a = ap (take m) front ∙ take_at a (drop (length a) old) m (sym e) in
    let others : rest ≡ drop (length a) old = ap (drop m) front ∙ drop_at a (drop (length a) old) m (sym e) in
    let long = length-append a b in
    record {
      size = omega (arith, e, q.size, long, ap length whole);
      bytes =
          ap (λ (r : List ℕ). take m now ++ (new ++ r)) none_left
          ∙ ap (λ (r : List ℕ). take m now ++ r) (append-nil new ∙ q.bytes ∙ ap (at_front b) (lent ∙ others))
          ∙ ap (λ (r : List ℕ). r ++ at_front b (drop (length a) old)) first
          ∙ ap (λ (r : List ℕ). a ++ (b ++ r)) (drop-drop (length b) (length a) old ∙ ap (λ (k : ℕ). drop k old) (sym long))
          ∙ sym (append_assoc a b (drop (length (a ++ b)) old))
          ∙ ap (λ (r : List ℕ). at_front r old) whole;
      fits = simp length-append (omega (arith, e, q.fits, ap length first));
    }
