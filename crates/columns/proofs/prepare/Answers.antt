use Rattle.columns.proofs.Preparing.{its_columns, all_prepared, all_worth}
use Rattle.columns.proofs.prepare.Goals as goal

pub returns-then-without_four-eq0 : goal.returns-then-without_four-eq0
returns-then-without_four-eq0 c = all_prepared c.requires c.fill-outputs.ensures (all_worth _ _ _)

pub worth-requires : goal.worth-requires
worth-requires c = its_columns c.requires c.fill-outputs.ensures

pub returns : goal.returns
returns c = all_prepared c.requires c.fill-outputs.ensures c.worth.ensures
