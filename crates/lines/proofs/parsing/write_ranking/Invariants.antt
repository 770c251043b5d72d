use Rattle.std.specs.Prelude.{◌≡◌}
use Rattle.basics.proofs.Words.{true, map, drop, sets, all_of}
use Rattle.writing.specs.Decimal.{is_digit, digit_value}
use Rattle.lines.proofs.parsing.write_ranking.Given as goal

abbrev pub invariant-loop-at : goal.invariant-loop-at
invariant-loop-at l = (all_of is_digit (drop l.at l.digits) ≡ true) × (sets l.ranking l.at (map digit_value (drop l.at l.digits)) ≡ sets l.initial.ranking 0 (map digit_value l.digits))
