use Rattle.basics.proofs.Words.{arith}
use Rattle.writing.proofs.Decimals.{digit_length, more_length}
use Rattle.writing.proofs.Writes.{written_digit, written_more, written_length}
use Rattle.writing.proofs.decimal.+write_number.Goals as goal

pub bounds-out-at : goal.bounds-out-at
bounds-out-at t c = omega (arith, digit_length c.args.n c.if-n-lt10.true)

pub returns-then-n-lt10 : goal.returns-then-n-lt10
returns-then-n-lt10 t c = written_digit _ _ _ c.if-n-lt10.true

-- the call for the digits before the last has a smaller number
pub write_number-last-requires : goal.write_number-last-requires
write_number-last-requires t c = (omega arith, omega (arith, more_length c.args.n c.if-n-lt10.false))

pub bounds-out-last : goal.bounds-out-last
bounds-out-last t c = omega (arith, more_length c.args.n c.if-n-lt10.false, written_length c.write_number-last.ensures)

pub overflow_add-result-2 : goal.overflow_add-result-2
overflow_add-result-2 t c = omega (arith, more_length c.args.n c.if-n-lt10.false)

pub returns : goal.returns
returns t c = written_more _ c.if-n-lt10.false c.write_number-last.ensures
