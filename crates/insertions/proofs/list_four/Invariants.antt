use Rattle.std.specs.Prelude.{◌≡◌, ◌*◌}
use Rattle.insertions.specs.Lanes.{bumped, placed}
use Rattle.insertions.specs.Tables.{four_lane}
use Rattle.insertions.proofs.list_four.Given as goal

abbrev pub invariant-loop-a : goal.invariant-loop-a
invariant-loop-a l =
    (l.entries ≡ placed (four_lane l.high l.low l.front l.back) (l.a * l.back * 4) l.initial.entries l.initial.ends) × (l.ends ≡ bumped 1 (four_lane l.high l.low l.front l.back) (l.a * l.back * 4) l.initial.ends)
