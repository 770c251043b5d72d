use Rattle.std.specs.Prelude.{◌≡◌, ◌≤◌}
use Rattle.basics.proofs.Words.{sym, ap, ap₂, subst, ◌∙◌, List, ℕ, min, max, arith, length, leb, lit<, leb-true}
use Rattle.std.proofs.Common.{Result, Ok}
use Rattle.std.proofs.lemmas.Result.{err_from_is_err_and}
use Rattle.refusals.specs.declared.Refusal.{Refusal}
use Rattle.refusals.specs.Refusals.{checked_number, refuse}
use Rattle.refusals.proofs.Refusals.{passed_number, was_true, number_positive}
use Rattle.join.specs.JoinedCard.{joined_card, joining, machines_refusal, joining_refusal}
use Rattle.join.specs.Laws.Joinable.{may_join}
use Rattle.join.specs.Writing.{placed, CardJoins}
use Rattle.join.proofs.Answers.{as_called, target_refusal, refused_by, refused_early, long_enough}
use Rattle.join.proofs.join.Goals as goal

-- the two numbers, the lower and the other one
numbers : (card : List ℕ) (a b : ℕ) {i j : ℕ} → i ≡ min a b → j ≡ max a b → machines_refusal card a b ≡ 0 → CardJoins card i j
numbers card a b {i} {j} ei ej ok = subst (λ (n : ℕ). CardJoins card n j) (sym ei) (subst (λ (n : ℕ). CardJoins card (min a b) n) (sym ej) (may_join card a b ok))

-- the new card fits the target
fits : {answer : Result (Unit {0}) Refusal} (n room : ℕ) → answer ≡ Ok tt → checked_number answer ≡ refuse 18 (leb n room) → n ≤ room
fits n room told e = leb-true n room (was_true told 18 (leb n room) (lit< tt) e)

pub returns-in_err-check_joining : goal.returns-in_err-check_joining
returns-in_err-check_joining c =
    let card = c.args.card.now in
    let n = sym c.check_joining.ensures ∙ ap checked_number c.in_err-check_joining.was in
    let p = err_from_is_err_and c.from_residual.result c.from_residual.ensures.1 in
    rw (p.1, p.2) (as_called card c.args.target.now c.index-first.result c.index-second.result c.args.first c.args.second _ _ c.index-first.ensures.0 c.index-second.ensures.0
    (refused_early card c.index-first.result c.index-second.result c.args.target.now _ n (number_positive c.in_err-check_joining.field-0.0)))

pub new_card_length-length-requires : goal.new_card_length-length-requires
new_card_length-length-requires c =
    numbers c.args.card.now c.index-first.result c.index-second.result c.min-lower.ensures c.max-other.ensures (passed_number c.in_ok-check_joining.was c.check_joining.ensures)

pub returns-in_err-tested : goal.returns-in_err-tested
returns-in_err-tested c =
    let card = c.args.card.now in
    let a = c.index-first.result in
    let b = c.index-second.result in
    let passed = passed_number c.in_ok-check_joining.was c.check_joining.ensures in
    let tested-18 : checked_number c.tested.result ≡ refuse 18 (leb (length (joining card a b)) (length c.args.target.now)) =
    c.tested.ensures ∙ ap (λ (n : ℕ). refuse 18 (leb n (length c.args.target.now))) (c.new_card_length-length.ensures ∙ ap₂ (λ (x y : ℕ). length (joined_card x y card)) c.min-lower.ensures c.max-other.ensures) in
    let n = target_refusal card a b c.args.target.now passed ∙ sym tested-18 ∙ ap checked_number c.in_err-tested.was in
    let p = err_from_is_err_and c.from_residual-in_err-tested.result c.from_residual-in_err-tested.ensures.1 in
    rw (p.1, p.2) (as_called card c.args.target.now a b c.args.first c.args.second _ _ c.index-first.ensures.0 c.index-second.ensures.0
    (refused_by card a b c.args.target.now _ n (number_positive c.in_err-tested.field-0.0)))

pub write_card-requires : goal.write_card-requires
write_card-requires c = (
  numbers c.args.card.now c.index-first.result c.index-second.result c.min-lower.ensures c.max-other.ensures (passed_number c.in_ok-check_joining.was c.check_joining.ensures),
  omega (arith, fits c.new_card_length-length.result (length c.args.target.now) c.in_ok-tested.was c.tested.ensures, c.new_card_length-length.ensures),
)

pub returns : goal.returns
returns c =
    let card = c.args.card.now in
    let a = c.index-first.result in
    let b = c.index-second.result in
    let passed = passed_number c.in_ok-check_joining.was c.check_joining.ensures in
    let room = fits c.new_card_length-length.result (length c.args.target.now) c.in_ok-tested.was c.tested.ensures in
    let q = ap₂ (λ (x y : ℕ). joined_card x y card) c.min-lower.ensures c.max-other.ensures in
    let len = c.new_card_length-length.ensures ∙ ap length q in
    let done = long_enough card a b c.args.target.now passed (omega (arith, room, len)) c.write_card.new.target (c.write_card.ensures ∙ ap (λ (y : List ℕ). placed 0 y c.args.target.now) q) in
    as_called card c.args.target.now a b c.args.first c.args.second _ _ c.index-first.ensures.0 c.index-second.ensures.0
    (ap (λ (n : ℕ). record { number = 0; length = n }) len ∙ done.0, done.1)
