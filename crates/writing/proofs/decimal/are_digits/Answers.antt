use Rattle.std.specs.Prelude.{◌≡◌}
use Rattle.std.proofs.lemmas.Iterator.{YieldsList-from_slice, cases_from_all}
use Rattle.basics.proofs.Words.{true, false, rules}
use borrow.Author.Tests.{tests}
use Rattle.writing.specs.Decimal.{is_digit}
use Rattle.writing.proofs.Lists.{all_cases}
use Rattle.writing.proofs.decimal.are_digits.Goals as goal

pub returns : goal.returns
returns c =
    all_cases is_digit c.args.text.now 0 _
    (cases_from_all _ _ _ (λ b. is_digit b ≡ true) (λ b. is_digit b ≡ false) c.all.ensures.ran (YieldsList-from_slice c.args.text.now cc) (λ x q k. search (rules, tests)) (λ x q k. search (rules, tests)))
