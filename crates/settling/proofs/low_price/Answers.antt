use Rattle.std.specs.Prelude.{◌*◌}
use Rattle.basics.proofs.Words.{◌∙◌, sym, ap, Bool, ℕ, arith}
use Rattle.settling.specs.Prices.{marks_price, lows_by}
use Rattle.settling.proofs.Prices.{ranked_low, widened_few, no_price}
use Rattle.settling.proofs.low_price.Goals as goal

pub returns-then-ranked : goal.returns-then-ranked
returns-then-ranked c = (
  ap (λ (n : ℕ). n * 65536) c.widen.ensures ∙ ranked_low c.args.marks _ c.from.ensures ∙ ap (λ (b : Bool). marks_price (lows_by b) c.args.marks) (sym c.if-ranked.true),
  omega (arith, widened_few c.from.result c.widen.result (omega (arith, c.from.ensures, c.requires)) c.widen.ensures),
)

pub returns : goal.returns
returns c = (no_price c.args.marks ∙ ap (λ (b : Bool). marks_price (lows_by b) c.args.marks) (sym c.if-ranked.false), omega arith)
