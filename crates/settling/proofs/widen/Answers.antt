use Rattle.settling.proofs.Prices.{widened}
use Rattle.settling.proofs.widen.Goals as goal

pub returns : goal.returns
returns c = widened _ c.requires
