use Rattle.cells.proofs.Scaling.{Scaling}
use Rattle.cells.proofs.scales.write_scales.Given as goal

abbrev pub invariant-loop-m : goal.invariant-loop-m
invariant-loop-m l = Scaling l.counts l.initial.weights l.weights l.scale l.m
