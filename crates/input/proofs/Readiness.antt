-- What the checks before a search answer: that of the card, then the rest. Assumes nothing.
use Rattle.std.specs.Prelude.{Result, Ok, Err, ◌≡◌, ◌∷◌}
use Rattle.std.specs.Result.{IsErrAnd}
use Rattle.std.proofs.lemmas.Result.{err_from_is_err_and}
use Rattle.basics.specs.Words.{sym, ◌∙◌, ap, List, ℕ}
use Rattle.refusals.specs.declared.Refusal.{Refusal}
use Rattle.refusals.specs.Refusals.{number_of, checked_number, first_of}
use Rattle.refusals.proofs.Refusals.{goes_up, goes_on}
use Rattle.grid.specs.declared.Grid.{Grid}
use Rattle.grid.specs.Grids.{GridOf}
use Rattle.input.specs.Readiness.{Readies}

-- a refusal that is passed on
not_ready : {card : List ℕ} {n : ℕ} (e : Refusal) {r : Result Grid Refusal} → IsErrAnd r (λ y. y ≡ e) → number_of e ≡ n → Readies card n r
not_ready e {r = r} m h = let p = err_from_is_err_and r m in rw (p.1, p.2) (record { number = h; sizes = tt })

module _ (n : ℕ) (rest : List ℕ) {s : Result Unit Refusal} (checked : checked_number s ≡ n) where
  -- the card is refused
  pub card_refused : {card : List ℕ} {e : Refusal} {r : Result Grid Refusal} → s ≡ Err e → IsErrAnd r (λ y. y ≡ e) → Readies card (first_of (n ∷ rest)) r
  card_refused {e = e} was m = not_ready e m (sym (ap checked_number was) ∙ goes_up was n rest checked)

  -- or it is not, and the rest decides
  decides : {a : Unit} → s ≡ Ok a → (t : Result Unit Refusal) → checked_number t ≡ first_of rest → checked_number t ≡ first_of (n ∷ rest)
  decides was t e = e ∙ sym (goes_on was n rest checked)

  module _ {a : Unit} (was : s ≡ Ok a) {t : Result Unit Refusal} (rest_checked : checked_number t ≡ first_of rest) where
    pub rest_refused : {card : List ℕ} {e : Refusal} {r : Result Grid Refusal} → t ≡ Err e → IsErrAnd r (λ y. y ≡ e) → Readies card (first_of (n ∷ rest)) r
    rest_refused {e = e} is m = not_ready e m (sym (ap checked_number is) ∙ decides was t rest_checked)

    pub ready : {card : List ℕ} {b : Unit} {g : Grid} → t ≡ Ok b → GridOf card g → Readies card (first_of (n ∷ rest)) (Ok g)
    ready is G = record { number = sym (ap checked_number is) ∙ decides was t rest_checked; sizes = G }
