use Rattle.std.specs.Prelude.{◌≡◌, ◌≤◌, ◌-◌, ◌%◌}
use Rattle.basics.proofs.Words.{length, drop, all_of}
use Rattle.candidate.specs.Candidates.{pairs_of}
use Rattle.candidate.specs.Evaluating.{sound_pair}
use Rattle.candidate.proofs.check_candidate.Given as goal

abbrev pub invariant-loop-at : goal.invariant-loop-at
invariant-loop-at l =
    (l.at % 2 ≡ 0)
    × (l.at ≤ length l.candidate)
    × (all_of (sound_pair l.symbols) (pairs_of (drop l.at l.candidate)) ≡ all_of (sound_pair l.symbols) (pairs_of l.candidate))

abbrev pub decreases-loop-at : goal.decreases-loop-at
decreases-loop-at l = length l.candidate - l.at
