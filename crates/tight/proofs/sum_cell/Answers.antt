use Rattle.basics.proofs.Words.{sym, arith}
use Rattle.tight.specs.Laws.Labels.{sum_some, sum_none}
use Rattle.tight.proofs.sum_cell.Goals as goal

pub returns-then-sum-lt-NO_SUM : goal.returns-then-sum-lt-NO_SUM
returns-then-sum-lt-NO_SUM c = sym (sum_some c.args.sums.now c.args.node c.if-sum-lt-NO_SUM.true)

pub returns : goal.returns
returns c = sym (sum_none c.args.sums.now c.args.node (omega (arith, c.if-sum-lt-NO_SUM.false)))
