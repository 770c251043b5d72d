use Rattle.std.specs.Prelude.{◌≡◌, ◌-◌}
use Rattle.basics.proofs.Words.{length}
use Rattle.columns.proofs.AtHand.{AtHandTo}
use Rattle.columns.proofs.fill_at.Given as goal

abbrev pub invariant-loop-m : goal.invariant-loop-m
invariant-loop-m l = (length l.steps ≡ length l.initial.steps) × AtHandTo l.card l.states l.steps l.input l.m l.taken
