use Rattle.tables.proofs.Work.{reached_test}
use Rattle.tables.proofs.labels.reached.Goals as goal

pub returns : goal.returns
returns c = reached_test _ _
