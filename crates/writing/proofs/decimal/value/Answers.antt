use Rattle.basics.proofs.Words.{arith, get_or}
use Rattle.writing.specs.Decimal.{is_digit}
use Rattle.writing.proofs.Lists.{rest_cons, all_first, all_rest}
use Rattle.writing.proofs.Decimals.{digit_facts, value_next, value_end, power_next}
use Rattle.writing.proofs.decimal.value.Goals as goal

pub overflow_sub-digit : goal.overflow_sub-digit
overflow_sub-digit c = (digit_facts _ (all_first is_digit (rest_cons _ _ 0 c.loop-digit-test.true) c.loop-digit.invariant.1)).low

pub loop-digit-preserved : goal.loop-digit-preserved
loop-digit-preserved c =
    let digit = digit_facts (get_or c.args.digits.now c.loop-digit.digit-index 0) (all_first is_digit (rest_cons _ _ 0 c.loop-digit-test.true) c.loop-digit.invariant.1) in (
      omega (arith, power_next c.loop-digit.digit-index, digit, c.from.ensures),
      all_rest is_digit (rest_cons _ _ 0 c.loop-digit-test.true) c.loop-digit.invariant.1,
      rw c.from.ensures (value_next _ _ _ c.loop-digit-test.true c.loop-digit.invariant.2),
    )

pub returns : goal.returns
returns c = value_end _ _ _ c.loop-digit-test.false c.loop-digit.invariant.2
