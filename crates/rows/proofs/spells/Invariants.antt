use Rattle.std.specs.Prelude.{◌≡◌, ◌≤◌, ◌-◌, ◌%◌}
use Rattle.basics.proofs.Words.{length}
use Rattle.rows.proofs.Spelling.{rest_same}
use Rattle.rows.proofs.spells.Given as goal

abbrev pub invariant-loop-at : goal.invariant-loop-at
invariant-loop-at l =
    (l.at % 2 ≡ 0) × (l.at ≤ length l.candidate) × (l.place ≤ length l.word) × (rest_same l.candidate l.word l.at l.place ≡ rest_same l.candidate l.word 0 0)

abbrev pub decreases-loop-at : goal.decreases-loop-at
decreases-loop-at l = length l.candidate - l.at
