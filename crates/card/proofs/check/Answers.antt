use Rattle.std.specs.Prelude.{◌≡◌, ◌∷◌}
use Rattle.std.proofs.lemmas.Result.{err_from_is_err_and}
use Rattle.basics.proofs.Words.{ap, sym, ◌∙◌, true, [], lit<}
use Rattle.refusals.specs.Refusals.{checked_number, refuse}
use Rattle.layout.specs.Layout.{laid_out}
use Rattle.card.specs.Layout.{machine_count, symbol_count, counted, parts_of}
use Rattle.card.specs.Card.{machines_refusal, card_refusal}
use Rattle.refusals.proofs.Refusals.{last_one, was_true, goes_up}
use Rattle.card.proofs.check.Goals as goal

pub returns-in_err-check_head : goal.returns-in_err-check_head
unfolding card_refusal
returns-in_err-check_head c =
    let l = c.args.card.now in
    let p = err_from_is_err_and c.from_residual.result c.from_residual.ensures.1 in
    let e = c.in_err-check_head.was in
    rw (p.1, p.2)
    (sym (ap checked_number e)
    ∙ goes_up e (refuse 1 (counted l)) (refuse 2 (laid_out (machine_count l) l) ∷ machines_refusal (symbol_count l) (parts_of l) ∷ []) c.check_head.ensures)

pub returns-in_err-check_layout : goal.returns-in_err-check_layout
unfolding card_refusal
returns-in_err-check_layout c =
    let l = c.args.card.now in
    let headed : counted l ≡ true = was_true c.in_ok-check_head.was 1 (counted l) (lit< tt) c.check_head.ensures in
    let p = err_from_is_err_and c.from_residual-in_err-check_layout.result c.from_residual-in_err-check_layout.ensures.1 in
    let e = c.in_err-check_layout.was in
    rw (p.1, p.2, headed)
    (sym (ap checked_number e) ∙ goes_up e (refuse 2 (laid_out (machine_count l) l)) (machines_refusal (symbol_count l) (parts_of l) ∷ []) c.check_layout.ensures)

pub returns : goal.returns
unfolding card_refusal
returns c =
    let l = c.args.card.now in
    let headed : counted l ≡ true = was_true c.in_ok-check_head.was 1 (counted l) (lit< tt) c.check_head.ensures in
    let laid : laid_out (machine_count l) l ≡ true = was_true c.in_ok-check_layout.was 2 (laid_out (machine_count l) l) (lit< tt) c.check_layout.ensures in
    rw (headed, laid) (c.check_card.ensures ∙ sym (last_one (machines_refusal (symbol_count l) (parts_of l))))
