use Rattle.basics.proofs.Words.{refl, inl, inr, arith}
use Rattle.cells.proofs.nearer.Goals as goal

pub returns-then-a-b : goal.returns-then-a-b
returns-then-a-b c = record { one = inl refl; first = omega arith; second = omega (arith, c.if-a-b.true) }

pub returns-else-a-b : goal.returns-else-a-b
returns-else-a-b c = record { one = inr refl; first = omega (arith, c.if-a-b.false); second = omega arith }
