use Rattle.std.specs.Prelude.{◌≡◌, ◌-◌, ◌≤◌}
use Rattle.basics.proofs.Words.{length}
use Rattle.layout.proofs.Writing.{written}
use Rattle.layout.proofs.packing.write_part.Given as goal

abbrev pub invariant-loop-i : goal.invariant-loop-i
invariant-loop-i l = (l.i-end ≡ length l.part) × (l.i ≤ length l.part) × (l.stretch ≡ written l.part l.i l.initial.stretch)

abbrev pub decreases-loop-i : goal.decreases-loop-i
decreases-loop-i l = l.i-end - l.i
