use Rattle.std.specs.Prelude.{◌≡◌}
use Rattle.basics.proofs.Words.{sym, ◌∙◌, ap, true, false, ℕ, arith, length, get_or, drop, all_of}
use Rattle.refusals.proofs.Refusals.{passes_with, refuses_with}
use Rattle.product.proofs.Words.{symbol, wrong_length, right_length, next_symbol, wrong_symbol, no_symbol_left}
use Rattle.product.proofs.check_word.Goals as goal

pub returns-then-word-gt24 : goal.returns-then-word-gt24
returns-then-word-gt24 c = sym (refuses_with 8 (wrong_length c.args.symbols c.args.word.now c.if-word-gt24.true))

pub loop-byte-init : goal.loop-byte-init
loop-byte-init c = (omega arith, right_length c.args.symbols c.args.word.now c.if-word-gt24.false)

pub returns-then-not-is_symbol : goal.returns-then-not-is_symbol
returns-then-not-is_symbol c =
    let w = c.args.word.now in
    let e : symbol c.args.symbols (get_or w c.loop-byte.byte-index 0) ≡ false = sym c.is_symbol.ensures ∙ c.if-not-is_symbol.true in
    sym (refuses_with 8 (sym c.loop-byte.invariant.1 ∙ wrong_symbol c.args.symbols w c.loop-byte.byte-index (omega arith) e))

pub loop-byte-preserved : goal.loop-byte-preserved
loop-byte-preserved c =
    let w = c.args.word.now in
    let e : symbol c.args.symbols (get_or w c.loop-byte.byte-index 0) ≡ true = sym c.is_symbol.ensures ∙ c.if-not-is_symbol.false in
    (omega arith, next_symbol c.args.symbols w c.loop-byte.byte-index (omega arith) e ∙ c.loop-byte.invariant.1)

pub returns : goal.returns
returns c =
    let w = c.args.word.now in
    let e : c.loop-byte.byte-index ≡ length w = omega arith in
    sym (passes_with 8 (sym c.loop-byte.invariant.1 ∙ ap (λ (n : ℕ). all_of (symbol c.args.symbols) (drop n w)) e ∙ no_symbol_left c.args.symbols w))
