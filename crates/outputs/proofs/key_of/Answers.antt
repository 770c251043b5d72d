use Rattle.basics.proofs.Words.{arith, mod-lt}
use Rattle.outputs.proofs.key_of.Goals as goal

pub returns : goal.returns
returns c = mod-lt c.loop-place.sum (omega arith)
