use Rattle.basics.proofs.Words.{arith}
use Rattle.cull.proofs.Culling.{clear_next}
use Rattle.cull.proofs.clear_place.Goals as goal

pub loop-node-preserved : goal.loop-node-preserved
loop-node-preserved c = clear_next c.requires.1 (omega arith) c.loop-node.invariant
