use Rattle.basics.proofs.Words.{sym, arith}
use Rattle.entering.proofs.LastPosition.{ending_there, ending_none}
use Rattle.entering.proofs.endings.ending_label.Goals as goal

pub returns-then-ending-lt-NOWHERE : goal.returns-then-ending-lt-NOWHERE
returns-then-ending-lt-NOWHERE c = sym (ending_there _ _ c.if-ending-lt-NOWHERE.true)

pub returns : goal.returns
returns c = sym (ending_none _ _ (omega (arith, c.if-ending-lt-NOWHERE.false)))
