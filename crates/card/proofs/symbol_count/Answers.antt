use Rattle.basics.proofs.Words.{arith}
use Rattle.card.specs.Accepted.{accepted}
use Rattle.card.proofs.symbol_count.Goals as goal

pub bounds-card-1 : goal.bounds-card-1
bounds-card-1 c = omega (arith, (accepted c.args.card.now c.requires).head)
