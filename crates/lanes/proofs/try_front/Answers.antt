use Rattle.lanes.proofs.Trying.{row_skipped}
use Rattle.lanes.proofs.try_front.Goals as goal

pub returns-else-any_step : goal.returns-else-any_step
returns-else-any_step c =
    row_skipped c.requires.0 c.args.a c.requires.1 c.requires.2 (c.any_step.ensures c.if-any_step.false)
