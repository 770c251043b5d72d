use Rattle.columns.proofs.FirstSets.{every_output, not_empty}
use Rattle.columns.proofs.partners.Goals as goal

pub returns-then-input-eq-EMPTY : goal.returns-then-input-eq-EMPTY
returns-then-input-eq-EMPTY c = not_empty _ _ c.if-input-eq-EMPTY.true c.without_empty.ensures

pub returns-else-input-eq-EMPTY : goal.returns-else-input-eq-EMPTY
returns-else-input-eq-EMPTY c = every_output _ c.if-input-eq-EMPTY.false
