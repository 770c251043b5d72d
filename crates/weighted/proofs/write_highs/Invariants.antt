use Rattle.weighted.specs.WeighsBy.{HighsWritten}
use Rattle.weighted.proofs.write_highs.Given as goal

abbrev pub invariant-loop-m : goal.invariant-loop-m
invariant-loop-m l = HighsWritten l.weights l.initial.numbers l.numbers l.m
