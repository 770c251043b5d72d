use Rattle.std.specs.Prelude.{◌≡◌, ◌+◌, ◌*◌}
use Rattle.basics.proofs.Words.{[], length, take}
use Rattle.layout.specs.Packing.{total, packed}
use Rattle.layout.proofs.Writing.{written}
use Rattle.layout.proofs.packing.write_table.Given as goal

abbrev pub invariant-loop-i : goal.invariant-loop-i
invariant-loop-i l =
    (l.start ≡ 2 + 4 * length l.lengths + total (take l.i l.lengths))
    × (l.target ≡ written (packed l.symbols l.lengths []) (2 + 4 * l.i) l.initial.target)
