use Rattle.std.specs.Prelude.{◌&&◌}
use Rattle.basics.proofs.Words.{ap, sym, ◌∙◌, Bool, ℕ, length, leb}
use Rattle.lines.proofs.Forms.{symbol_passes, symbol_fails}
use Rattle.lines.proofs.parsing.is_symbol_text.Goals as goal

pub returns-then-text-are_digits : goal.returns-then-text-are_digits
returns-then-text-are_digits c =
    let l = c.args.text.now in
    ap (λ (n : ℕ). leb n 255) c.value.ensures
    ∙ symbol_passes l (ap (λ (t : Bool). leb 1 (length l) && leb (length l) 3 && t) (sym c.are_digits.ensures) ∙ c.if-text-are_digits.true)

pub returns-else-text-are_digits : goal.returns-else-text-are_digits
returns-else-text-are_digits c =
    let l = c.args.text.now in
    c.if-text-are_digits.false ∙ symbol_fails l (ap (λ (t : Bool). leb 1 (length l) && leb (length l) 3 && t) (sym c.are_digits.ensures) ∙ c.if-text-are_digits.false)
