use Rattle.std.specs.Prelude.{◌≡◌, ◌≤◌}
use Rattle.basics.proofs.Words.{true, every_below}
use Rattle.rows.specs.Tableau.{row_of}
use Rattle.rows.specs.Judging.{counts_are_profile}
use Rattle.rows.proofs.check_profiles.Given as goal

abbrev pub invariant-loop-i : goal.invariant-loop-i
invariant-loop-i l = (l.i ≤ l.profiles) × (every_below (λ j. counts_are_profile l.card (row_of l.tableau j)) l.i ≡ true)
