use Rattle.basics.proofs.Words.{arith}
use Rattle.live.proofs.Places.{closed_next, closed_end}
use Rattle.live.proofs.close_gap.Goals as goal

pub loop-i-preserved : goal.loop-i-preserved
loop-i-preserved c = closed_next _ c.loop-i.invariant c.loop-i-test.true c.requires.1

pub returns : goal.returns
returns c = closed_end c.loop-i.invariant (omega arith) c.zero_row.ensures
