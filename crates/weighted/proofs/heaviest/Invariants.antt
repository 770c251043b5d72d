use Rattle.std.specs.Prelude.{◌<◌}
use Rattle.basics.proofs.Words.{length}
use Rattle.weighted.proofs.heaviest.Given as goal

abbrev pub invariant-loop-m : goal.invariant-loop-m
invariant-loop-m l = l.first < length l.weights
