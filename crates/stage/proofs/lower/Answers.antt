use Rattle.stage.proofs.StageWork.{lowered_kept, lowered_written}
use borrow.Author.Rules.{rules}
use Rattle.stage.proofs.lower.Goals as goal

pub returns-then-improves : goal.returns-then-improves
returns-then-improves c =
    lowered_written _ (c.improves.ensures.below c.if-improves.true) c.store.ensures (search rules) (search rules)

pub returns : goal.returns
returns c = lowered_kept _ (c.improves.ensures.upto c.if-improves.false)
