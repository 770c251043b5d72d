use Rattle.basics.specs.Words.{sym}
use Rattle.closing.proofs.ClosingSums.{sum_there, sum_none}
use Rattle.closing.proofs.sum_of.Goals as goal

pub returns-then-high-ge-NOWHERE : goal.returns-then-high-ge-NOWHERE
returns-then-high-ge-NOWHERE c = sym (sum_none (record { high = c.args.high; low = c.args.low }) c.if-high-ge-NOWHERE.true)

pub returns : goal.returns
returns c = sym (sum_there (record { high = c.args.high; low = c.args.low }) c.if-high-ge-NOWHERE.false)
