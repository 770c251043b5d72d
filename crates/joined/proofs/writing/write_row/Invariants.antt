use Rattle.std.specs.Prelude.{◌+◌, ◌≤◌}
use Rattle.basics.proofs.Words.{length}
use Rattle.machine.specs.Part.{state_count, arcs_of}
use Rattle.joined.specs.Writing.{placed, shared_bytes, row_bytes}
use Rattle.joined.proofs.Rest.{Rest}
use Rattle.joined.proofs.writing.write_row.Given as goal

abbrev pub invariant-loop-i : goal.invariant-loop-i
invariant-loop-i l =
    (l.i ≤ l.arcs) × Rest (shared_bytes (state_count l.second) l.arc) (arcs_of l.second) (placed l.at (row_bytes l.second l.arc) l.initial.target) (l.at + length (row_bytes l.second l.arc)) (length l.initial.target) l.i l.next l.target
