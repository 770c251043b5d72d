use Rattle.std.specs.Prelude.{◌≡◌, ◌^◌, ◌<◌}
use Rattle.basics.proofs.Words.{true, drop, all_of}
use Rattle.writing.specs.Decimal.{is_digit, value_from, value_of}
use Rattle.writing.proofs.decimal.value.Given as goal

abbrev pub invariant-loop-digit : goal.invariant-loop-digit
invariant-loop-digit l = (l.n < 10 ^ l.digit-index) × (all_of is_digit (drop l.digit-index l.digits) ≡ true) × (value_from l.n (drop l.digit-index l.digits) ≡ value_of l.digits)
