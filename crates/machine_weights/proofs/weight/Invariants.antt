use Rattle.machine_weights.proofs.Weighing.{SumTo}
use Rattle.machine_weights.proofs.weight.Given as goal

abbrev pub invariant-loop-i : goal.invariant-loop-i
invariant-loop-i l = SumTo l.places l.weights l.machine l.i l.sum
