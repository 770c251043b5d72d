use Rattle.basics.proofs.Words.{rules}
use Rattle.stage.proofs.StageWork.{written}
use Rattle.stage.proofs.store.Goals as goal

pub returns : goal.returns
returns c = written _ _ _ _ _ (search rules) (search rules)
