use Rattle.std.specs.Prelude.{◌≡◌, ◌*◌}
use Rattle.basics.proofs.Words.{[]}
use Rattle.insertions.specs.Lanes.{bumped}
use Rattle.insertions.specs.Tables.{four_lane}
use Rattle.insertions.proofs.count_four.Given as goal

abbrev pub invariant-loop-a : goal.invariant-loop-a
invariant-loop-a l =
    l.ends ≡ bumped 2 (four_lane l.high [] l.front l.back) (l.a * l.back * 4) l.initial.ends
