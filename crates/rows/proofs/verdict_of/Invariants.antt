use Rattle.std.specs.Prelude.{◌≡◌, ◌≤◌}
use Rattle.basics.proofs.Words.{Bool, List, none, ℕ}
use Rattle.rows.specs.Tableau.{counts_of}
use Rattle.rows.specs.Judging.{same_counts}
use Rattle.rows.proofs.Verdicts.{first_before}
use Rattle.rows.proofs.verdict_of.Given as goal

-- a row that has the counts wins
abbrev pub wins : List ℕ → List ℕ → Bool
wins counts row = same_counts (counts_of row) counts

abbrev pub invariant-loop-row : goal.invariant-loop-row
invariant-loop-row l = (l.row ≤ l.rows) × (first_before (wins l.best.counts) l.tableau l.row ≡ none)
