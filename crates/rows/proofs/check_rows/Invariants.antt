use Rattle.std.specs.Prelude.{◌≡◌, ◌≤◌}
use Rattle.basics.proofs.Words.{true, every_below}
use Rattle.rows.specs.Tableau.{row_of, sound_row}
use Rattle.rows.proofs.check_rows.Given as goal

abbrev pub invariant-loop-i : goal.invariant-loop-i
invariant-loop-i l = (l.i ≤ l.rows) × (every_below (λ j. sound_row l.machines (row_of l.tableau j)) l.i ≡ true)
