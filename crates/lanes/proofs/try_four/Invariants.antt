use Rattle.std.specs.Prelude.{◌*◌, ◌≤◌}
use Rattle.lanes.specs.Trying.{TriedIn}
use Rattle.lanes.proofs.try_four.Given as goal

abbrev pub invariant-loop-a : goal.invariant-loop-a
invariant-loop-a l = TriedIn l.initial.own l.own l.next l.high l.low l.front l.back 0 (l.a * l.back) × (l.a ≤ l.front)
