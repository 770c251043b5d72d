use Rattle.basics.specs.Words.{length}
use Rattle.labelling.proofs.Finishing.{PositionClosed}
use Rattle.labelling.proofs.label_positions.Given as goal

abbrev pub invariant-loop-position : goal.invariant-loop-position
invariant-loop-position l = PositionClosed l.card l.weights l.sets l.ranked l.sums l.own l.next (length l.counts) l.size l.position
