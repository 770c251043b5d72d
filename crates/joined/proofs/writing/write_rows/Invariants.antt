use Rattle.std.specs.Prelude.{◌+◌, ◌≤◌}
use Rattle.basics.proofs.Words.{length}
use Rattle.machine.specs.Part.{arcs_of}
use Rattle.joined.specs.Writing.{placed, row_bytes, rows_bytes}
use Rattle.joined.proofs.Rest.{Rest}
use Rattle.joined.proofs.writing.write_rows.Given as goal

abbrev pub invariant-loop-i : goal.invariant-loop-i
invariant-loop-i l =
    (l.i ≤ l.arcs) × Rest (row_bytes l.second) (arcs_of l.first) (placed l.at (rows_bytes l.first l.second) l.initial.target) (l.at + length (rows_bytes l.first l.second)) (length l.initial.target) l.i l.next l.target
