use Rattle.basics.proofs.Words.{arith}
use Rattle.card.specs.Laws.Layout.{head_told}
use Rattle.card.proofs.head.check_layout.Goals as goal

pub bounds-card-0 : goal.bounds-card-0
bounds-card-0 c = omega (arith, head_told c.args.card.now c.requires)
