use Rattle.basics.proofs.Words.{arith}
use Rattle.input.proofs.Words.{filled_end, small_at}
use Rattle.input.proofs.fill_sets.Goals as goal

pub set_of-requires : goal.set_of-requires
set_of-requires c = small_at _ c.requires.1 _ (omega arith)

pub returns : goal.returns
returns c = filled_end c.loop-i.invariant.0 (omega arith)
