use Rattle.std.specs.Prelude.{◌≡◌}
use Rattle.basics.proofs.Words.{length}
use Rattle.part_check.proofs.Clashing.{PairsPassed}
use Rattle.part_check.proofs.clashes.note_pairs.Given as goal

abbrev pub invariant-loop-left : goal.invariant-loop-left
invariant-loop-left l = (length l.taken ≡ 64) × PairsPassed l.initial.taken l.taken l.kind l.inputs l.initial.left l.left

abbrev pub decreases-loop-left : goal.decreases-loop-left
decreases-loop-left l = l.left
