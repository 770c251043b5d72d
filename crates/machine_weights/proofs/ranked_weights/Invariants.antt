use Rattle.tables.specs.Places.{six_places}
use Rattle.machine_weights.proofs.Weighing.{WeightsFrom}
use Rattle.machine_weights.proofs.ranked_weights.Given as goal

abbrev pub invariant-loop-m : goal.invariant-loop-m
invariant-loop-m l = WeightsFrom l.counts (six_places l.ranking) l.weights l.m l.scale
