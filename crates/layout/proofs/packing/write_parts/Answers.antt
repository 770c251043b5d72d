use Rattle.std.specs.Prelude.{◌+◌, ◌*◌}
use Rattle.basics.proofs.Words.{refl, arith, length, add-one}
use Rattle.layout.specs.Packing.{total}
use Rattle.layout.specs.Laws.Parts.{total_next, total_within}
use Rattle.layout.proofs.Writing.{parts_none, parts_next}
use Rattle.layout.proofs.packing.write_parts.Goals as goal

pub loop-length-init : goal.loop-length-init
unfolding total
loop-length-init c =
    (refl, omega arith, parts_none (2 + 4 * length c.args.lengths.now) c.args.parts.now c.args.target.now (omega arith))

pub overflow_add-end : goal.overflow_add-end
overflow_add-end c = omega (arith, total_within c.args.lengths.now c.loop-length.length-index (omega arith), c.from-length.ensures)

pub overflow_add-next : goal.overflow_add-next
overflow_add-next c = omega (arith, total_within c.args.lengths.now c.loop-length.length-index (omega arith), c.from-length.ensures)

-- the part to be written lies within the target, which keeps its length
pub slice_bounds-write_part-end : goal.slice_bounds-write_part-end
slice_bounds-write_part-end c =
    omega (arith, total_within c.args.lengths.now c.loop-length.length-index (omega arith), c.loop-length.auto.target)

-- and within the parts
pub slice_bounds-write_part-end-in-loop-length : goal.slice_bounds-write_part-end-in-loop-length
slice_bounds-write_part-end-in-loop-length c =
    omega (arith, total_within c.args.lengths.now c.loop-length.length-index (omega arith))

pub loop-length-preserved : goal.loop-length-preserved
loop-length-preserved c =
    let l = c.args.lengths.now in
    let more = total_within l c.loop-length.length-index (omega arith) in (
      rw add-one (omega (arith, total_next l c.loop-length.length-index (omega arith))),
      omega arith,
      parts_next (2 + 4 * length l) c.args.parts.now c.args.target.now (omega arith) c.loop-length.offset c.loop-length.from c.from-length.result c.loop-length.target c.write_part.new.stretch
          c.loop-length.invariant.1 (omega arith) c.loop-length.invariant.2 c.write_part.ensures,
    )
