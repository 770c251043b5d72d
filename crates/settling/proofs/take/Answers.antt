use Rattle.settling.proofs.OpenCodes.{closed}
use Rattle.settling.proofs.take.Goals as goal

pub returns : goal.returns
returns c =
    closed _ c.requires.1 _ c.requires.0 _ (c.of_kind.ensures _ c.set_of.ensures)
