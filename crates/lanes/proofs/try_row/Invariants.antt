use Rattle.std.specs.Prelude.{◌+◌, ◌*◌, ◌≤◌}
use Rattle.lanes.specs.Trying.{TriedIn}
use Rattle.lanes.proofs.try_row.Given as goal

abbrev pub invariant-loop-b : goal.invariant-loop-b
invariant-loop-b l = TriedIn l.initial.own l.own l.next l.high l.low l.front l.back (l.a * l.back) (l.a * l.back + l.b) × (l.b ≤ l.back)
