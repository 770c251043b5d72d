use Rattle.std.specs.Prelude.{◌≡◌, ◌-◌}
use Rattle.basics.proofs.Words.{length}
use Rattle.columns.proofs.Filling.{FilledTo}
use Rattle.columns.proofs.fill.Given as goal

abbrev pub invariant-loop-m : goal.invariant-loop-m
invariant-loop-m l = (length l.steps ≡ length l.initial.steps) × FilledTo l.card l.counts l.steps l.width l.input l.first l.m l.taken
