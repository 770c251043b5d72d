use Rattle.std.specs.Prelude.{◌+◌, ◌*◌, ◌-◌}
use Rattle.basics.proofs.Words.{ap, sym, arith}
use Rattle.refusals.specs.Refusals.{refuse}
use Rattle.machine.specs.Accepted.{shape_facts}
use Rattle.part_check.proofs.Clashing.{state_start, state_next, state_stop}
use Rattle.part_check.proofs.clashes.check_state.Goals as goal

pub bounds-part-1 : goal.bounds-part-1
bounds-part-1 c = omega (arith, shape_facts _ c.requires.0)

pub loop-i-init : goal.loop-i-init
loop-i-init c = state_start c.args.part.now c.args.from _ c.index-i.ensures.0

pub note_arc-requires : goal.note_arc-requires
note_arc-requires c =
    (c.loop-i.invariant.size, omega (arith, c.loop-i.invariant.arcs, c.requires.1, shape_facts _ c.requires.0))

pub returns-then-note_arc : goal.returns-then-note_arc
returns-then-note_arc c =
    ap (refuse 5) (sym (state_stop c.args.part.now c.args.from c.loop-i.invariant (c.loop-i.i - 1) (2 + c.args.states + 20 * (c.loop-i.i - 1)) (omega arith) (omega (arith, c.requires.1)) c.note_arc.new.taken (rw c.if-note_arc.true at c.note_arc.ensures)))

pub loop-i-preserved : goal.loop-i-preserved
loop-i-preserved c =
    state_next c.args.part.now c.args.from c.loop-i.invariant (c.loop-i.i - 1) (2 + c.args.states + 20 * (c.loop-i.i - 1)) (omega arith) (omega (arith, c.requires.1)) c.note_arc.new.taken (omega (arith, c.note_arc.auto.taken, c.loop-i.invariant.size)) (rw c.if-note_arc.false at c.note_arc.ensures)
