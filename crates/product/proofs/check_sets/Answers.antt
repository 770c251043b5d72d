use Rattle.std.specs.Prelude.{◌≡◌}
use Rattle.basics.proofs.Words.{sym, ◌∙◌, ap, true, false, ℕ, arith, length, get_or, drop, all_of}
use Rattle.refusals.specs.Refusals.{refuse}
use Rattle.product.specs.OptimizingSets.{symbol_set}
use Rattle.product.proofs.Sets.{too_many, few, next_set, wrong_set, no_set_left}
use Rattle.product.proofs.check_sets.Goals as goal

pub returns-then-sets-gt24 : goal.returns-then-sets-gt24
returns-then-sets-gt24 c = sym (too_many c.args.symbols c.args.sets.now c.if-sets-gt24.true)

pub loop-set-init : goal.loop-set-init
loop-set-init c =
    (omega arith, c.set_of-last.ensures, few c.args.symbols c.args.sets.now c.if-sets-gt24.false)

pub returns-then-not-is_symbol_set : goal.returns-then-not-is_symbol_set
returns-then-not-is_symbol_set c =
    let w = c.args.sets.now in
    let e : symbol_set c.args.symbols (get_or w c.loop-set.set-index 0) ≡ false = sym (c.is_symbol_set.ensures c.args.symbols c.loop-set.invariant.1) ∙ c.if-not-is_symbol_set.true in
    sym (sym c.loop-set.invariant.2 ∙ wrong_set c.args.symbols w c.loop-set.set-index (omega arith) e)

pub loop-set-preserved : goal.loop-set-preserved
loop-set-preserved c =
    let w = c.args.sets.now in
    let e : symbol_set c.args.symbols (get_or w c.loop-set.set-index 0) ≡ true = sym (c.is_symbol_set.ensures c.args.symbols c.loop-set.invariant.1) ∙ c.if-not-is_symbol_set.false in
    (omega arith, c.loop-set.invariant.1, next_set c.args.symbols w c.loop-set.set-index (omega arith) e ∙ c.loop-set.invariant.2)

pub returns : goal.returns
returns c =
    let w = c.args.sets.now in
    let e : c.loop-set.set-index ≡ length w = omega arith in
    sym (sym c.loop-set.invariant.2 ∙ ap (λ (n : ℕ). refuse 25 (all_of (symbol_set c.args.symbols) (drop n w))) e ∙ no_set_left c.args.symbols w)
