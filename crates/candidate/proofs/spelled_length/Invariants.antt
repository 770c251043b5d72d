use Rattle.std.specs.Prelude.{◌≡◌, ◌≤◌, ◌-◌, ◌+◌, ◌*◌, ◌%◌}
use Rattle.basics.proofs.Words.{length, drop}
use Rattle.candidate.specs.Candidates.{pairs_of, spelled}
use Rattle.candidate.proofs.spelled_length.Given as goal

abbrev pub invariant-loop-at : goal.invariant-loop-at
invariant-loop-at l =
    (l.at % 2 ≡ 0)
    × (l.at ≤ length l.candidate)
    × (2 * l.symbols ≤ l.at)
    × (l.symbols + length (spelled (pairs_of (drop l.at l.candidate))) ≡ length (spelled (pairs_of l.candidate)))

abbrev pub decreases-loop-at : goal.decreases-loop-at
decreases-loop-at l = length l.candidate - l.at
