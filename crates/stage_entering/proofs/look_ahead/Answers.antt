use Rattle.basics.specs.Words.{arith, length-set}
use Rattle.stage_entering.proofs.Front.{look_next}
use Rattle.stage_entering.proofs.look_ahead.Goals as goal

pub loop-code-preserved : goal.loop-code-preserved
loop-code-preserved c =
    (simp length-set c.loop-code.invariant.0, look_next (omega (arith, c.loop-code-test.true, c.loop-code.invariant.0, c.requires.2)) c.loop-code.invariant.1 c.front_counts.ensures)
