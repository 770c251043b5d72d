use Rattle.std.specs.Prelude.{◌≡◌}
use Rattle.insertions.specs.Lanes.{bumped, placed}
use Rattle.insertions.specs.Tables.{code_lane}
use Rattle.insertions.proofs.list_code.Given as goal

abbrev pub invariant-loop-j : goal.invariant-loop-j
invariant-loop-j l =
    (l.entries ≡ placed (code_lane l.high l.low l.code l.a l.b) l.j l.initial.entries l.initial.ends) × (l.ends ≡ bumped 1 (code_lane l.high l.low l.code l.a l.b) l.j l.initial.ends)
