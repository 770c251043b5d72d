use Rattle.machine.specs.Part.{arc_at}
use Rattle.part_check.proofs.Clashing.{other_arc, this_arc}
use Rattle.part_check.proofs.clashes.note_arc.Goals as goal

pub returns-then-part-at : goal.returns-then-part-at
unfolding arc_at
returns-then-part-at c =
    other_arc (arc_at c.args.part.now c.args.at) c.args.from c.args.taken.now c.if-part-at.true

pub returns : goal.returns
unfolding arc_at
returns c =
    this_arc (arc_at c.args.part.now c.args.at) c.args.from c.args.taken.now c.note_pairs.new.taken c.note_pairs.result c.if-part-at.false (rw c.read_arc.ensures at c.note_pairs.ensures)
