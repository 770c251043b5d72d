use Rattle.passing.proofs.Ending.{EndedTo}
use Rattle.passing.proofs.with_ending.Given as goal

abbrev pub invariant-loop-m : goal.invariant-loop-m
invariant-loop-m l = EndedTo l.card l.states l.initial.sums l.sums l.m
