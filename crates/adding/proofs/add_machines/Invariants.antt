use Rattle.std.specs.Prelude.{◌≡◌}
use Rattle.basics.proofs.Words.{length}
use Rattle.adding.specs.Cells.{high_at, low_at}
use Rattle.adding.proofs.Filling.{Reached, SumsFrom}
use Rattle.adding.proofs.add_machines.Given as goal

abbrev pub invariant-loop-m : goal.invariant-loop-m
invariant-loop-m l =
    Reached l.counts l.end l.codes l.place l.m
    × SumsFrom (high_at l.steps l.weights l.width) l.four l.counts l.high l.codes l.place l.m
    × SumsFrom (low_at l.steps l.weights l.width) l.four l.counts l.low l.codes l.place l.m
    × (length l.high ≡ length l.initial.high)
    × (length l.low ≡ length l.initial.low)
