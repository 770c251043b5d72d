use Rattle.std.specs.Prelude.{◌∷◌}
use Rattle.basics.proofs.Words.{sym, ap, ◌∙◌, [], arith}
use Rattle.card.specs.Card.{card_refusal}
use Rattle.std.proofs.lemmas.Result.{err_from_is_err_and}
use Rattle.refusals.specs.Refusals.{refuse, checked_number}
use Rattle.refusals.proofs.Refusals.{passed_number, goes_up, first_on, last_one}
use Rattle.join.specs.JoinedCard.{joinable, join_fits, machines_refusal}
use Rattle.join.proofs.Answers.{two_of, fits_as}
use Rattle.join.proofs.check_joining.Goals as goal

pub returns-in_err-check : goal.returns-in_err-check
unfolding machines_refusal
returns-in_err-check c =
    let p = err_from_is_err_and c.from_residual.result c.from_residual.ensures.1 in
    rw (p.1, p.2) (ap checked_number (sym c.in_err-check.was)
    ∙ goes_up c.in_err-check.was (card_refusal c.args.card.now) (refuse 27 (joinable c.args.card.now c.args.first c.args.second) ∷ refuse 28 (join_fits c.args.card.now c.args.first c.args.second) ∷ []) c.check.ensures)

pub returns-in_err-tested : goal.returns-in_err-tested
unfolding machines_refusal
returns-in_err-tested c =
    let card = c.args.card.now in
    let ok = passed_number c.in_ok-check.was c.check.ensures in
    let p = err_from_is_err_and c.from_residual-in_err-tested.result c.from_residual-in_err-tested.ensures.1 in
    rw (p.1, p.2) (ap checked_number (sym c.in_err-tested.was)
    ∙ goes_up c.in_err-tested.was (refuse 27 (joinable card c.args.first c.args.second)) (refuse 28 (join_fits card c.args.first c.args.second) ∷ []) (c.tested.ensures ∙ ap (refuse 27) c.is_joinable.ensures)
    ∙ sym (first_on (card_refusal card) (refuse 27 (joinable card c.args.first c.args.second) ∷ refuse 28 (join_fits card c.args.first c.args.second) ∷ []) ok))

pub fits_part-requires : goal.fits_part-requires
fits_part-requires c =
    let ok = passed_number c.in_ok-check.was c.check.ensures in
    let ok-27 = passed_number c.in_ok-tested.was (c.tested.ensures ∙ ap (refuse 27) c.is_joinable.ensures) in
    let w = two_of c.args.card.now c.args.first c.args.second ok-27 in
    (ok, omega (arith, c.min-lower.ensures, w), omega (arith, c.max-other.ensures, w))

pub returns : goal.returns
unfolding machines_refusal
returns c =
    let card = c.args.card.now in
    let a = c.args.first in
    let b = c.args.second in
    let ok = passed_number c.in_ok-check.was c.check.ensures in
    let ok-27 = passed_number c.in_ok-tested.was (c.tested.ensures ∙ ap (refuse 27) c.is_joinable.ensures) in
    let w = two_of card a b ok-27 in
    c.tested-2.ensures
    ∙ ap (refuse 28) (c.fits_part.ensures ∙ fits_as card a b w c.min-lower.result c.max-other.result c.min-lower.ensures c.max-other.ensures)
    ∙ sym (first_on (card_refusal card) (refuse 27 (joinable card a b) ∷ refuse 28 (join_fits card a b) ∷ []) ok ∙ first_on (refuse 27 (joinable card a b)) (refuse 28 (join_fits card a b) ∷ []) ok-27 ∙ last_one (refuse 28 (join_fits card a b)))
