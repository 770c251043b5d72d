use Rattle.basics.proofs.Words.{arith}
use Rattle.cull.proofs.Culling.{blank_next}
use Rattle.cull.proofs.blank.Goals as goal

pub loop-node-preserved : goal.loop-node-preserved
loop-node-preserved c = blank_next (omega arith) c.loop-node.invariant
