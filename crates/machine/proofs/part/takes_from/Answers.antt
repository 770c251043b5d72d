use Rattle.basics.proofs.Words.{sym, ◌∙◌}
use Rattle.machine.specs.Part.{arc_at}
use Rattle.machine.specs.Laws.Arcs.{leaves, leaves_other}
use Rattle.machine.proofs.part.takes_from.Goals as goal

pub returns-then-part-at : goal.returns-then-part-at
unfolding arc_at
returns-then-part-at c pair i o = sym (leaves_other (arc_at c.args.part.now c.args.at) c.args.state pair c.if-part-at.true)

pub returns : goal.returns
unfolding arc_at
returns c pair i o =
    let e = c.read_arc.ensures in
    (rw e at (c.takes.ensures pair i o)) ∙ sym (leaves (arc_at c.args.part.now c.args.at) c.args.state pair c.if-part-at.false)
