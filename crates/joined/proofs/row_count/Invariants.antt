use Rattle.std.specs.Prelude.{◌≡◌, ◌+◌, ◌≤◌}
use Rattle.basics.proofs.Words.{length, drop}
use Rattle.machine.specs.Part.{state_count, arcs_of}
use Rattle.joined.specs.JoinedMachine.{arcs_with}
use Rattle.joined.proofs.row_count.Given as goal

abbrev pub invariant-loop-i : goal.invariant-loop-i
invariant-loop-i l =
    (l.i ≤ l.arcs) × (l.count ≤ l.i) × (l.count + length (arcs_with (state_count l.second) (drop l.i (arcs_of l.second)) l.arc) ≡ length (arcs_with (state_count l.second) (arcs_of l.second) l.arc))
