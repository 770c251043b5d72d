use Rattle.std.specs.Prelude.{◌≡◌, ◌*◌}
use Rattle.insertions.specs.Lanes.{bumped, placed}
use Rattle.insertions.specs.Tables.{lanes_from}
use Rattle.insertions.proofs.list_row.Given as goal

abbrev pub invariant-loop-b : goal.invariant-loop-b
invariant-loop-b l =
    (l.entries ≡ placed (lanes_from l.high l.low l.front l.back (l.a * l.back)) (l.b * 4) l.initial.entries l.initial.ends) × (l.ends ≡ bumped 1 (lanes_from l.high l.low l.front l.back (l.a * l.back)) (l.b * 4) l.initial.ends)
