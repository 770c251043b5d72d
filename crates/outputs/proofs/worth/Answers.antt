use Rattle.basics.proofs.Words.{refl, ap, arith}
use lib.Bits.{bit_or}
use Rattle.outputs.proofs.Keeping.{worth_start, worth_passed, worth_kept, worth_end}
use Rattle.outputs.proofs.worth.Goals as goal

pub loop-left-init : goal.loop-left-init
loop-left-init c = (worth_start, refl)

pub is_known-requires : goal.is_known-requires
is_known-requires c =
    (c.requires, c.least-output.ensures.1, λ k t. omega (arith, c.loop-left.invariant.0.before k c.least-output.result t c.least-output.ensures.2), c.loop-left.invariant.1)

pub set_of-kept-requires : goal.set_of-kept-requires
set_of-kept-requires c =
    omega (arith, c.least-output.ensures.1)

pub loop-left-smaller-then-not-is_known : goal.loop-left-smaller-then-not-is_known
loop-left-smaller-then-not-is_known c =
    omega (arith, c.without_least-rest.ensures.0)

pub loop-left-preserved-then-not-is_known : goal.loop-left-preserved-then-not-is_known
loop-left-preserved-then-not-is_known c =
    (worth_kept c.loop-left.invariant.0 c.least-output.result c.without_least-rest.result c.least-output.ensures.0 c.least-output.ensures.2 c.without_least-rest.ensures.1 (bit_or c.loop-left.kept c.set_of-kept.result) (ap (bit_or c.loop-left.kept) c.set_of-kept.ensures), omega (arith, c.is_known.auto.last, c.loop-left.invariant.1))

pub loop-left-smaller : goal.loop-left-smaller
loop-left-smaller c =
    omega (arith, c.without_least-rest.ensures.0)

pub loop-left-preserved : goal.loop-left-preserved
loop-left-preserved c =
    (worth_passed c.loop-left.invariant.0 c.least-output.result c.without_least-rest.result c.least-output.ensures.0 c.least-output.ensures.2 c.without_least-rest.ensures.1 (c.is_known.ensures c.if-not-is_known.false), omega (arith, c.is_known.auto.last, c.loop-left.invariant.1))

pub returns : goal.returns
returns c = worth_end c.loop-left.invariant.0 c.loop-left-test.false
