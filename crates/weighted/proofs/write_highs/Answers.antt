use Rattle.std.proofs.Common.{◌*◌, ℕ, ap, arith}
use Rattle.weighted.proofs.Numbers.{highs_next}
use Rattle.weighted.proofs.write_highs.Goals as goal

pub bounds-numbers-m : goal.bounds-numbers-m
bounds-numbers-m c = omega (arith, c.requires.0, c.loop-m.invariant.size, c.loop-m-test.true)

pub loop-m-preserved : goal.loop-m-preserved
loop-m-preserved c = highs_next c.loop-m.invariant (omega (arith, c.requires.0, c.loop-m.invariant.size, c.loop-m-test.true)) _ (ap (λ (n : ℕ). 256 * n) c.from.ensures)
