use Rattle.basics.proofs.Words.{sym, ◌∙◌}
use Rattle.tables.proofs.Starting.{start_is_zero}
use Rattle.tables.proofs.start_node.Goals as goal

pub returns : goal.returns
returns c ms e = c.loop-count.invariant.1 ∙ sym (start_is_zero ms)
