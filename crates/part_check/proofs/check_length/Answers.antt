use Rattle.basics.proofs.Words.{arith, length, lt-leb, le-leb}
use Rattle.machine.specs.Part.{shaped}
use Rattle.part_check.proofs.check_length.Goals as goal

pub returns-then-part-lt2 : goal.returns-then-part-lt2
unfolding shaped
returns-then-part-lt2 c = rw (lt-leb _ _ c.if-part-lt2.true)

pub returns : goal.returns
unfolding shaped
returns c =
    let l = c.args.part.now in
    rw (le-leb 2 (length l) (omega arith)) (rw (c.index-states.ensures.0, c.index-arcs.ensures.0) at c.tested.ensures)
