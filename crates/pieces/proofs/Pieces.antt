-- What ends in a piece of the input, and what is held after it, by the lines that are found in it. Assumes nothing.
use Rattle.std.specs.Prelude.{◌≡◌, ◌∷◌, ◌++◌, ◌+◌, ◌≤◌}
use Rattle.basics.specs.Words.{refl, ap, sym, ◌∙◌, List, [], Option, some, none, ℕ, arith, length, drop, take, length-take, drop-drop, take_at}
use Rattle.lines.specs.declared.Next.TheVariants as next
use Rattle.writing.specs.Text.{line_end, before, after}
use Rattle.lines.specs.Input.{kept, next_of}
use Rattle.writing.specs.Buffers.{at_front}
use Rattle.lines.specs.Taking.{ended_lines, held_after}
use Rattle.lines.specs.LinesOfPieces.{next_ended, next_open}
use Rattle.tally.specs.declared.Tally.{Tally}
use Rattle.lesson.specs.Tally.{line_tally, lines_tally}
use Rattle.lesson.specs.TallyLaws.{tally_cons}
use Rattle.writing.proofs.Cutting.{before_short, after_some}

module _ (line piece : List ℕ) (held from : ℕ) (few : held ≤ 201) where
  -- the line's bytes so far
  so_far : List ℕ
  so_far = take held line

  -- the rest of the piece
  rest : List ℕ
  rest = drop from piece

  short : length so_far ≤ 201
  unfolding so_far
  short = simp length-take (omega arith)

  -- what is kept of the line
  now_kept : List ℕ
  now_kept = kept (so_far ++ before line_end rest)

  told_open : after line_end rest ≡ none → next_of so_far from rest ≡ next.Open (length now_kept)
  unfolding next_of now_kept
  told_open h = rw (next_of, h)

  told_line : {others : List ℕ} → after line_end rest ≡ some others → next_of so_far from rest ≡ next.Line (length now_kept) (from + length (before line_end rest) + 1)
  unfolding next_of now_kept
  told_line h = rw (next_of, h)

  -- where a line ends, the piece goes on after it
  goes_on : (n at : ℕ) {others : List ℕ} → after line_end rest ≡ some others → next_of so_far from rest ≡ next.Line n at → drop at piece ≡ others
  unfolding rest
  goes_on n at {others} h e =
      let f = sym (told_line h) ∙ e in
      let place : at ≡ from + length (before line_end rest) + 1 = cc in
      let found = after_some line_end rest (λ q. omega (arith, before_short line_end rest h)) in
      let others_there : others ≡ drop (length (before line_end rest) + 1) rest = cc in
      let there : at ≡ from + (length (before line_end rest) + 1) = omega (arith, place) in
      ap (λ (k : ℕ). drop k piece) there ∙ sym (drop-drop (length (before line_end rest) + 1) from piece) ∙ sym others_there

  -- then nothing is held
  pub held_ended : (n at : ℕ) → next_of (take held line) from (drop from piece) ≡ next.Line n at
      → held_after [] (drop at piece) ≡ held_after (take held line) (drop from piece)
  unfolding so_far rest
  held_ended n at e = go (after line_end rest) refl
    where
      go : (o : Option (List ℕ)) → after line_end rest ≡ o → held_after [] (drop at piece) ≡ held_after so_far rest
      go none h = let f = sym (told_open h) ∙ e in let z : ◌≡◌ {A = ℕ} 0 1 = cc in absurd (omega arith)
      go (some others) h = ap (held_after []) (goes_on n at h e) ∙ sym (next_ended rest so_far short h).1

  -- and the line is the first of those that end in the rest
  pub first_ended : (n at : ℕ) {now : List ℕ} → next_of (take held line) from (drop from piece) ≡ next.Line n at
      → now ≡ at_front (kept (take held line ++ before line_end (drop from piece))) line
      → ended_lines (take held line) (drop from piece) ≡ take n now ∷ ended_lines [] (drop at piece)
  unfolding so_far rest now_kept
  first_ended n at {now} e l = go (after line_end rest) refl
    where
      go : (o : Option (List ℕ)) → after line_end rest ≡ o → ended_lines so_far rest ≡ take n now ∷ ended_lines [] (drop at piece)
      go none h = let f = sym (told_open h) ∙ e in let z : ◌≡◌ {A = ℕ} 0 1 = cc in absurd (omega arith)
      go (some others) h =
          let f = sym (told_line h) ∙ e in
          let size : n ≡ length now_kept = cc in
          let whole : take n now ≡ now_kept = ap (take n) l ∙ take_at _ _ _ (sym size) in
          (next_ended rest so_far short h).0
          ∙ ap (λ (k : List ℕ). k ∷ ended_lines [] others) (sym whole)
          ∙ ap (λ (r : List ℕ). take n now ∷ ended_lines [] r) (sym (goes_on n at h e))

  -- so the lines from this one on give the tally, once the line is counted
  pub counted_on : (card : List ℕ) (t : Tally) (n at : ℕ) {now : List ℕ} {u : Tally} → next_of (take held line) from (drop from piece) ≡ next.Line n at
      → now ≡ at_front (kept (take held line ++ before line_end (drop from piece))) line
      → u ≡ line_tally card t (take n now)
      → lines_tally card u (ended_lines [] (drop at piece)) ≡ lines_tally card t (ended_lines (take held line) (drop from piece))
  counted_on card t n at {now} e l counted =
      let others = ended_lines [] (drop at piece) in
      ap (λ (v : Tally). lines_tally card v others) counted
      ∙ sym (tally_cons card t (take n now) others)
      ∙ ap (lines_tally card t) (sym (first_ended n at e l))

  -- where none ends, what is kept of the line is held
  pub held_open : (n : ℕ) → next_of (take held line) from (drop from piece) ≡ next.Open n
      → (n ≡ length (kept (take held line ++ before line_end (drop from piece)))) × (kept (take held line ++ before line_end (drop from piece)) ≡ held_after (take held line) (drop from piece))
  unfolding so_far rest now_kept
  held_open n e = go (after line_end rest) refl
    where
      go : (o : Option (List ℕ)) → after line_end rest ≡ o → (n ≡ length now_kept) × (now_kept ≡ held_after so_far rest)
      go none h = let f = sym (told_open h) ∙ e in (cc, sym (next_open rest so_far short h).1)
      go (some others) h = let f = sym (told_line h) ∙ e in let z : ◌≡◌ {A = ℕ} 0 1 = cc in absurd (omega arith)

  pub none_ended : (n : ℕ) → next_of (take held line) from (drop from piece) ≡ next.Open n → ended_lines (take held line) (drop from piece) ≡ []
  unfolding so_far rest
  none_ended n e = go (after line_end rest) refl
    where
      go : (o : Option (List ℕ)) → after line_end rest ≡ o → ended_lines so_far rest ≡ []
      go none h = (next_open rest so_far short h).0
      go (some others) h = let f = sym (told_line h) ∙ e in let z : ◌≡◌ {A = ℕ} 0 1 = cc in absurd (omega arith)
