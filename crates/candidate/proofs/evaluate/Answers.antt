use Rattle.std.specs.Prelude.{◌≡◌}
use Rattle.std.proofs.Common.{Result, Ok}
use Rattle.std.proofs.lemmas.Result.{err_from_is_err_and}
use Rattle.basics.proofs.Words.{sym, ap, ◌∙◌, true, false, List, ℕ, arith, lit<}
use Rattle.refusals.specs.declared.Refusal.{Refusal}
use Rattle.refusals.specs.Refusals.{number_of, refuse, checked_number}
use Rattle.refusals.proofs.Refusals.{number_positive, passed_number, was_true, was_false, refuses_with}
use Rattle.card.specs.Layout.{symbol_count}
use Rattle.card.specs.Card.{card_refusal, machines_of}
use Rattle.candidate.specs.Candidates.{pairs_of, is_complete}
use Rattle.candidate.specs.Evaluating.{sound_candidate, refused}
use Rattle.candidate.specs.Laws.Pairs.{sound_shape, length_pairs}
use Rattle.candidate.proofs.Answers.{card_refused, candidate_refused, completion_refused, evaluated}
use Rattle.candidate.proofs.evaluate.Goals as goal

-- a candidate that passes is sound
sound : {A : Type 0} {s : Result A Refusal} {a : A} → s ≡ Ok a → {S symbols : ℕ} (l : List ℕ) → S ≡ symbols → checked_number s ≡ refuse 13 (sound_candidate S l) → sound_candidate symbols l ≡ true
sound told {S} l q e = rw q at (was_true told 13 (sound_candidate S l) (lit< tt) e)

pub returns-in_err-check : goal.returns-in_err-check
returns-in_err-check c =
    let p = err_from_is_err_and c.from_residual.result c.from_residual.ensures.1 in
    let e : card_refusal c.args.card.now ≡ number_of c.in_err-check.field-0.0 = sym c.check.ensures ∙ ap checked_number c.in_err-check.was in
    rw (p.1, p.2) (sym (card_refused c.args.card.now c.args.candidate.now _ e (number_positive c.in_err-check.field-0.0)))

pub returns-in_err-check_candidate : goal.returns-in_err-check_candidate
returns-in_err-check_candidate c =
    let b = sound_candidate c.symbol_count.result c.args.candidate.now in
    let e = c.in_err-check_candidate.was in
    let f : b ≡ false = was_false e 13 b c.check_candidate.ensures in
    let p = err_from_is_err_and c.from_residual-in_err-check_candidate.result c.from_residual-in_err-check_candidate.ensures.1 in
    rw (p.1, p.2)
    (ap refused (sym (ap checked_number e) ∙ c.check_candidate.ensures ∙ refuses_with 13 f)
    ∙ sym (candidate_refused c.args.card.now c.args.candidate.now (passed_number c.in_ok-check.was c.check.ensures) (rw c.symbol_count.ensures at f)))

pub returns-in_err-profile : goal.returns-in_err-profile
returns-in_err-profile c =
    let b = is_complete (machines_of c.args.card.now) (pairs_of c.args.candidate.now) in
    let e = c.in_err-profile.was in
    let f : b ≡ false = was_false e 14 b c.score.ensures.checked in
    let p = err_from_is_err_and c.from_residual-in_err-profile.result c.from_residual-in_err-profile.ensures.1 in
    rw (p.1, p.2)
    (ap refused (sym (ap checked_number e) ∙ c.score.ensures.checked ∙ refuses_with 14 f)
    ∙ sym (completion_refused c.args.card.now c.args.candidate.now (passed_number c.in_ok-check.was c.check.ensures)
    (sound c.in_ok-check_candidate.was c.args.candidate.now c.symbol_count.ensures c.check_candidate.ensures) f))

pub overflow_cast-result : goal.overflow_cast-result
overflow_cast-result c =
    let h = sound_shape (symbol_count c.args.card.now) c.args.candidate.now (sound c.in_ok-check_candidate.was c.args.candidate.now c.symbol_count.ensures c.check_candidate.ensures) in
    omega (arith, h.1)

pub spelled_length-requires : goal.spelled_length-requires
spelled_length-requires c =
    let h = sound_shape (symbol_count c.args.card.now) c.args.candidate.now (sound c.in_ok-check_candidate.was c.args.candidate.now c.symbol_count.ensures c.check_candidate.ensures) in
    (h.0, h.1)

pub returns : goal.returns
returns c =
    let b = is_complete (machines_of c.args.card.now) (pairs_of c.args.candidate.now) in
    let s = sound c.in_ok-check_candidate.was c.args.candidate.now c.symbol_count.ensures c.check_candidate.ensures in
    let t : b ≡ true = was_true c.in_ok-profile.was 14 b (lit< tt) c.score.ensures.checked in
    let p = c.in_ok-profile.ensures.profile in
    let n = sym (length_pairs c.args.candidate.now (sound_shape (symbol_count c.args.card.now) c.args.candidate.now s).0) in
    let w = c.spelled_length.ensures in
    (λ i. record { number = 0; profile = p i; pairs = n i; word_length = w i })
    ∙ sym (evaluated c.args.card.now c.args.candidate.now (passed_number c.in_ok-check.was c.check.ensures) s t)
