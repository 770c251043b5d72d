use Rattle.std.specs.Prelude.{◌≡◌, ◌≤◌}
use Rattle.basics.proofs.Words.{true, every_below}
use Rattle.rows.specs.Tableau.{row_of}
use Rattle.rows.specs.Judging.{is_for_word}
use Rattle.rows.proofs.check_candidates.Given as goal

abbrev pub invariant-loop-i : goal.invariant-loop-i
invariant-loop-i l = (l.i ≤ l.candidates) × (every_below (λ j. is_for_word l.card l.word (row_of l.tableau j)) l.i ≡ true)
