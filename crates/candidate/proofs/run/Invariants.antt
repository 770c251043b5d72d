use Rattle.std.specs.Prelude.{◌≡◌, ◌≤◌, ◌-◌, ◌*◌, ◌%◌}
use Rattle.basics.proofs.Words.{true, ℕ, length, drop, all_of}
use Rattle.machine.specs.Part.{machine_of}
use Rattle.candidate.specs.Evaluating.{sound_pair}
use Rattle.candidate.specs.Candidates.{pairs_of, add_marks, marks_from, marks_of}
use Rattle.candidate.proofs.run.Given as goal

abbrev pub invariant-loop-at : goal.invariant-loop-at
invariant-loop-at l =
    (l.at % 2 ≡ 0)
    × (l.at ≤ length l.candidate)
    × (2 * l.marks ≤ 15 * l.at)
    × ((S : ℕ) → all_of (sound_pair S) (pairs_of l.candidate) ≡ true → all_of (sound_pair S) (pairs_of (drop l.at l.candidate)) ≡ true)
    × (add_marks l.marks (marks_from (machine_of l.part) l.position.state (pairs_of (drop l.at l.candidate))) ≡ marks_of (pairs_of l.candidate) (machine_of l.part))

abbrev pub decreases-loop-at : goal.decreases-loop-at
decreases-loop-at l = length l.candidate - l.at
