use Rattle.basics.proofs.Words.{arith}
use Rattle.card.specs.Accepted.{accepted}
use Rattle.card.proofs.machine_count.Goals as goal

pub bounds-card-0 : goal.bounds-card-0
bounds-card-0 c = omega (arith, (accepted c.args.card.now c.requires).head)
