-- Laws of the bytes that are kept of a line, and of the next line. Assumes nothing.
use Rattle.std.specs.Prelude.{◌≡◌, ◌++◌, ◌+◌, ◌-◌, ◌≤◌}
use Rattle.basics.proofs.Words.{refl, ap, sym, ◌∙◌, Bool, true, false, List, ℕ, min, arith, length, take, length-take, length-append, leb, take_all, take-take, take-append-add, length-take-le, sets-eq, leb-true, leb-false}
use Rattle.lines.specs.declared.Next.TheVariants.{Line, Open}
use Rattle.writing.specs.Text.{line_end, before}
use Rattle.writing.specs.Buffers.{Written, at_front}
use Rattle.lines.specs.Input.{kept, next_of}
use Rattle.writing.proofs.Cutting.{take_before, after_none, after_some}

-- a front of a front
take_both : {A : Type 0} (k n : ℕ) (l : List A) → take k (take n l) ≡ take (min n k) l
take_both k n l = go (leb n k) refl
  where
    go : (t : Bool) → leb n k ≡ t → take k (take n l) ≡ take (min n k) l
    go true e =
        let least : min n k ≡ n = omega (arith, leb-true n k e) in
        take_all k (take n l) (simp length-take (omega (arith, leb-true n k e))) ∙ ap (λ (m : ℕ). take m l) (sym least)
    go false e =
        let least : min n k ≡ k = omega (arith, leb-false n k e) in
        take-take k n l (omega (arith, leb-false n k e)) ∙ ap (λ (m : ℕ). take m l) (sym least)

module _ (line rest : List ℕ) (held n taken : ℕ) (short : held ≤ 201) (room : 201 ≤ length line) (e : n ≡ length (before line_end rest))
    (least : taken ≡ min n (201 - held)) where
  -- what is kept of the bytes held and those before the line end
  kept_text : kept (take held line ++ before line_end rest) ≡ take held line ++ take taken rest
  kept_text =
      let long : length (take held line) ≡ held = length-take-le held line (omega arith) in
      let most : 201 ≡ length (take held line) + (201 - held) = omega arith in
      ap (λ (m : ℕ). take m (take held line ++ before line_end rest)) most
      ∙ take-append-add (take held line) (before line_end rest) (201 - held)
      ∙ ap (λ (l : List ℕ). take held line ++ l)
      (ap (take (201 - held)) (sym (take_before line_end rest) ∙ ap (λ (m : ℕ). take m rest) (sym e))
      ∙ take_both (201 - held) n rest
      ∙ ap (λ (m : ℕ). take m rest) (sym least))

  kept_length : length (kept (take held line ++ before line_end rest)) ≡ held + length (take taken rest)
  kept_length =
      ap length kept_text
      ∙ length-append (take held line) (take taken rest)
      ∙ ap (λ (m : ℕ). m + length (take taken rest)) (length-take-le held line (omega arith))

  -- the bytes taken fit, and are written after those held
  pub taken_fits : held + length (take taken rest) ≤ length line
  taken_fits = simp length-take (omega arith)

  module _ {new : List ℕ} {next : ℕ} (w : Written (take taken rest) held line new next) where
    next_length : next ≡ length (kept (take held line ++ before line_end rest))
    next_length = w.place ∙ sym kept_length

    pub kept_written : new ≡ at_front (kept (take held line ++ before line_end rest)) line
    kept_written =
        rw (kept_length, kept_text) (w.bytes ∙ sets-eq (take taken rest) line held taken_fits)

    -- the line goes on, or it ends
    module _ (from : ℕ) where
      pub stays_open : n ≡ length rest → Open next ≡ next_of (take held line) from rest
      unfolding next_of
      stays_open h = rw (next_of, after_none line_end rest (sym e ∙ h)) (ap Open next_length)

      pub ends_line : (n ≡ length rest → ⊥) → Line next (from + n + 1) ≡ next_of (take held line) from rest
      unfolding next_of
      ends_line h = rw (next_of, after_some line_end rest (λ k. h (e ∙ k))) (λ i. Line (next_length i) (from + e i + 1))
