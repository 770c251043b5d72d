use Rattle.std.specs.Prelude.{◌*◌}
use Rattle.basics.proofs.Words.{◌∙◌, sym, ap, List, ℕ, arith}
use Rattle.settling.specs.Prices.{marks_price}
use Rattle.settling.proofs.Prices.{ranked_high, widened_few}
use Rattle.settling.proofs.high_price.Goals as goal

pub returns-then-ranked : goal.returns-then-ranked
returns-then-ranked c = (
  ap (λ (n : ℕ). n * 256) c.widen.ensures ∙ ranked_high c.args.marks _ c.from.ensures ∙ ap (λ (l : List ℕ). marks_price l c.args.marks) (sym (c.requires.2 c.if-ranked.true)),
  omega (arith, widened_few c.from.result c.widen.result (omega (arith, c.from.ensures, c.requires.1)) c.widen.ensures),
)
