use Rattle.card.specs.Accepted.{accepted}
use Rattle.card.proofs.part.Goals as goal

pub part-requires : goal.part-requires
part-requires c = (accepted c.args.card.now c.requires.0).within c.args.machine c.requires.1
