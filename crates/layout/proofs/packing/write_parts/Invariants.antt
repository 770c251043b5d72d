use Rattle.std.specs.Prelude.{◌≡◌, ◌++◌, ◌+◌, ◌*◌}
use Rattle.basics.proofs.Words.{length, take}
use Rattle.layout.specs.Packing.{total}
use Rattle.layout.proofs.Writing.{written}
use Rattle.layout.proofs.packing.write_parts.Given as goal

abbrev pub invariant-loop-length : goal.invariant-loop-length
invariant-loop-length l =
    (l.from ≡ total (take l.length-index l.lengths))
    × (l.offset ≡ 2 + 4 * length l.lengths + l.from)
    × (l.target ≡ written (take (2 + 4 * length l.lengths) l.initial.target ++ l.parts) l.offset l.initial.target)
