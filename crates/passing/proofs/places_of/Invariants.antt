use Rattle.passing.proofs.Placing.{PlacedTo}
use Rattle.passing.proofs.places_of.Given as goal

abbrev pub invariant-loop-m : goal.invariant-loop-m
invariant-loop-m l = PlacedTo l.counts l.states l.places l.first l.m
