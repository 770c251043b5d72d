use Rattle.basics.proofs.Words.{arith}
use lib.Count.{trailing_le}
use Rattle.cells.proofs.fours.least.Goals as goal

pub overflow_cast-result : goal.overflow_cast-result
overflow_cast-result c = omega (arith, trailing_le 64 c.args.set)
