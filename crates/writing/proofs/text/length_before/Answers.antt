use Rattle.std.specs.Prelude.{◌≡◌}
use Rattle.std.proofs.lemmas.Iterator.{YieldsList-from_slice, IsFirst-from_position}
use Rattle.basics.proofs.Words.{sym, ◌∙◌, length, arith, rules}
use borrow.Author.Tests.{tests}
use Rattle.writing.specs.Text.{before}
use Rattle.writing.proofs.Cutting.{before_position, before_length}
use Rattle.writing.proofs.text.length_before.Goals as goal

pub returns : goal.returns
returns c =
    let first = IsFirst-from_position _ _ _ (λ x. x ≡ c.args.b) (λ x. x ≡ c.args.b → ⊥) c.position.ensures.ran (YieldsList-from_slice c.args.text.now cc) (λ x q k. search (rules, tests)) (λ x q k. search (rules, tests)) in
    let e : c.unwrap_or.result ≡ length (before c.args.b c.args.text.now) = c.unwrap_or.ensures ∙ sym (before_position c.args.b c.args.text.now _ first) in
    (e, omega (arith, e, before_length c.args.b c.args.text.now))
