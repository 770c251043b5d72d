use Rattle.std.specs.Prelude.{◌≡◌}
use Rattle.basics.proofs.Words.{length}
use Rattle.insertions.proofs.Loops.{ListTo}
use Rattle.insertions.proofs.list.Given as goal

abbrev pub invariant-loop-left : goal.invariant-loop-left
invariant-loop-left l = ListTo l.steps l.counts l.weights l.width l.kept l.initial.entries l.initial.ends l.entries l.ends l.left × (length l.high ≡ length l.initial.high) × (length l.low ≡ length l.initial.low)

abbrev pub decreases-loop-left : goal.decreases-loop-left
decreases-loop-left l = l.left
