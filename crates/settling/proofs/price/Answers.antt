use Rattle.settling.specs.Prices.{marks_price}
use Rattle.basics.proofs.Words.{arith}
use Rattle.settling.proofs.price.Goals as goal

pub returns : goal.returns
unfolding marks_price
returns c = (omega arith, omega arith)
