use Rattle.std.specs.Prelude.{◌≡◌, ◌+◌, ◌*◌, ◌≤◌}
use Rattle.basics.proofs.Words.{true, every_below}
use Rattle.layout.specs.Layout.{due_offset, in_place}
use Rattle.layout.proofs.is_laid_out.Given as goal

abbrev pub invariant-loop-i : goal.invariant-loop-i
invariant-loop-i l =
    (l.due ≡ due_offset l.count l.bytes l.i) × (l.due ≤ 2 + 4 * l.count + 65535 * l.i) × (every_below (in_place l.count l.bytes) l.i ≡ true)
