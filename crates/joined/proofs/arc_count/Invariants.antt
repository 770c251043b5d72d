use Rattle.std.specs.Prelude.{◌≡◌, ◌+◌, ◌*◌, ◌≤◌}
use Rattle.basics.proofs.Words.{length, drop}
use Rattle.machine.specs.Part.{state_count, arcs_of}
use Rattle.joined.specs.JoinedMachine.{joined_arcs}
use Rattle.joined.proofs.arc_count.Given as goal

abbrev pub invariant-loop-i : goal.invariant-loop-i
invariant-loop-i l =
    (l.i ≤ l.arcs) × (l.count ≤ 255 * l.i)
    × (l.count + length (joined_arcs (state_count l.second) (drop l.i (arcs_of l.first)) (arcs_of l.second)) ≡ length (joined_arcs (state_count l.second) (arcs_of l.first) (arcs_of l.second)))
