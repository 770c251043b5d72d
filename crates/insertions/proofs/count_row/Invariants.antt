use Rattle.std.specs.Prelude.{◌≡◌, ◌*◌}
use Rattle.basics.proofs.Words.{[]}
use Rattle.insertions.specs.Lanes.{bumped}
use Rattle.insertions.specs.Tables.{lanes_from}
use Rattle.insertions.proofs.count_row.Given as goal

abbrev pub invariant-loop-b : goal.invariant-loop-b
invariant-loop-b l =
    l.ends ≡ bumped 2 (lanes_from l.high [] l.front l.back (l.a * l.back)) (l.b * 4) l.initial.ends
