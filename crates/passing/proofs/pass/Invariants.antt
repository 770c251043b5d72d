use Rattle.passing.proofs.Placing.{PassedTo}
use Rattle.passing.proofs.pass.Given as goal

abbrev pub invariant-loop-m : goal.invariant-loop-m
invariant-loop-m l = PassedTo l.steps l.places l.initial.marks l.width l.output l.states l.marks l.m
