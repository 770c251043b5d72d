use Rattle.basics.proofs.Words.{arith}
use Rattle.machine.specs.Accepted.{accepted, shape_facts}
use Rattle.columns.proofs.Endings.{part_next, part_end}
use Rattle.columns.proofs.fill_part_endings.Goals as goal

pub bounds-part-state : goal.bounds-part-state
bounds-part-state c =
    omega (arith, c.loop-state-test.true, c.requires.1, shape_facts c.args.part.now (accepted c.requires.0.accepted.0 c.args.part.now c.requires.0.accepted.1).shape)

pub loop-state-preserved : goal.loop-state-preserved
loop-state-preserved c =
    part_next c.requires.0 c.loop-state.invariant (omega (arith, c.loop-state-test.true, c.requires.1)) c.ending_number.result c.ending_number.ensures

pub returns : goal.returns
returns c =
    part_end c.requires.0 (accepted c.requires.0.accepted.0 c.args.part.now c.requires.0.accepted.1).shape c.loop-state.invariant (omega (arith, c.loop-state-test.false, c.requires.1))
