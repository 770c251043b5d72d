use Rattle.settling.proofs.OpenCodes.{opened}
use Rattle.settling.proofs.put.Goals as goal

pub returns : goal.returns
returns c = opened _ c.requires.1 _ c.requires.0 _ c.set_of.ensures
