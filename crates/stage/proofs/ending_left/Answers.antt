use Rattle.basics.proofs.Words.{arith}
use Rattle.stage.proofs.StageWork.{left_next, left_told, left_broken}
use Rattle.stage.proofs.ending_left.Goals as goal

pub returns-then-work-node : goal.returns-then-work-node
returns-then-work-node c =
    left_broken c.loop-place.place (omega arith) c.marks_at.ensures (omega (arith, c.if-work-node.true))

pub loop-place-preserved : goal.loop-place-preserved
loop-place-preserved c =
    left_next c.loop-place.invariant c.marks_at.ensures (omega (arith, c.if-work-node.false))

pub returns : goal.returns
returns c = left_told c.loop-place.invariant (omega arith)
