use Rattle.std.specs.Prelude.{◌≡◌}
use Rattle.basics.proofs.Words.{[]}
use Rattle.insertions.specs.Lanes.{bumped}
use Rattle.insertions.specs.Tables.{code_lane}
use Rattle.insertions.proofs.count_code.Given as goal

abbrev pub invariant-loop-j : goal.invariant-loop-j
invariant-loop-j l =
    l.ends ≡ bumped 2 (code_lane l.high [] l.code l.a l.b) l.j l.initial.ends
