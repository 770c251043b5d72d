use Rattle.std.specs.Prelude.{◌≡◌, ◌^◌}
use Rattle.basics.proofs.Words.{refl, sym, ap, ◌∙◌, true, ℕ, member, clash}
use Rattle.outputs.proofs.is_known.Goals as goal

pub returns-then-is_same : goal.returns-then-is_same
returns-then-is_same c =
    let one = c.set_of.ensures ∙ ap (λ (n : ℕ). 2 ^ n) (sym c.index.ensures.0) in
    let t : member c.args.kept c.index.result ≡ true = sym (c.holds.ensures c.index.result one) ∙ c.if-holds.true in
    λ e. record { other = c.index.result; before = c.requires.2 c.index.result t; is_kept_lem = t; same = c.is_same.ensures c.if-is_same.true }

pub returns : goal.returns
returns c = λ e. absurd (clash e refl)
