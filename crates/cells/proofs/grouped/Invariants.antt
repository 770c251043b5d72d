use Rattle.cells.proofs.Choosing.{Choosing}
use Rattle.cells.proofs.grouped.Given as goal

abbrev pub invariant-loop-m : goal.invariant-loop-m
invariant-loop-m l = Choosing l.counts l.size l.best l.places l.codes l.m
