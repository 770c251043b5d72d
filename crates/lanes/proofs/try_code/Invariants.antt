use Rattle.std.specs.Prelude.{◌≡◌, ◌+◌, ◌≤◌}
use Rattle.cells.specs.Labels.{cell_at}
use Rattle.lanes.specs.Trying.{way_of, least_of}
use Rattle.lanes.proofs.try_code.Given as goal

abbrev pub invariant-loop-j : goal.invariant-loop-j
invariant-loop-j l = (l.j ≤ 4) × (l.label ≡ least_of (λ k. way_of l.next l.high l.low (l.a + k) (l.b + k)) l.j (cell_at l.own l.code))
