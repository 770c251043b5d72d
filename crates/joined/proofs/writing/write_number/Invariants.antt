use Rattle.std.specs.Prelude.{◌≡◌, ◌+◌, ◌-◌, ◌≤◌}
use Rattle.basics.proofs.Words.{length}
use Rattle.joined.specs.MachineBytes.{little_endian}
use Rattle.joined.specs.Writing.{placed}
use Rattle.joined.proofs.writing.write_number.Given as goal

abbrev pub invariant-loop-i : goal.invariant-loop-i
invariant-loop-i l =
    (l.i ≤ 8) × (length l.target ≡ length l.initial.target) × (placed (l.at + l.i) (little_endian (8 - l.i) l.left) l.target ≡ placed l.at (little_endian 8 l.value) l.initial.target)

abbrev pub decreases-loop-i : goal.decreases-loop-i
decreases-loop-i l = 8 - l.i
