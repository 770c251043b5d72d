use Rattle.basics.proofs.Words.{arith}
use Rattle.closing.proofs.Passing.{at_least, passed}
use Rattle.closing.proofs.pass_on.Goals as goal

pub overflow_sub-next : goal.overflow_sub-next
overflow_sub-next c =
    omega (arith, at_least _ _ _ c.requires _ c.or_none-label.ensures)

pub returns : goal.returns
returns c =
    passed _ _ _ c.requires _ c.or_none-label.ensures
