use Rattle.std.specs.Prelude.{◌-◌}
use Rattle.basics.proofs.Words.{length}
use Rattle.columns.proofs.Endings.{EndingsTo}
use Rattle.columns.proofs.fill_endings.Given as goal

abbrev pub invariant-loop-m : goal.invariant-loop-m
invariant-loop-m l = EndingsTo l.card l.counts l.initial.steps l.steps l.first l.m
