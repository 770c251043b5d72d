-- A lesson that is not full, and how many totals are shown. Assumes nothing.
use Rattle.std.specs.Prelude.{◌≡◌, ◌+◌, ◌<◌}
use Rattle.basics.proofs.Words.{refl, false, List, ℕ, zero, suc, arith, leb-false}
use Rattle.card.specs.Layout.{machine_count}
use Rattle.card.specs.Card.{card_refusal}
use Rattle.tally.specs.declared.Tally.{Tally}
use Rattle.lesson.specs.Tally.{is_full, shown_machines}

-- a lesson that is not full
pub fewer : (t : Tally) → is_full t ≡ false → t.answered + t.refused < 1000
unfolding is_full
fewer t e = leb-false 1000 (t.answered + t.refused) e

-- the totals of a refused card, and of an accepted one
module _ (card : List ℕ) where
  pub shown_none : 0 < card_refusal card → ◌≡◌ {A = ℕ} 0 (shown_machines card)
  unfolding shown_machines
  shown_none h = go (card_refusal card) h
    where
      go : (n : ℕ) → 0 < n → ◌≡◌ {A = ℕ} 0 (elim n as (λ _. ℕ) [ zero ↦ machine_count card | suc n ↦ 0 ])
      go zero h = absurd (omega arith)
      go (suc n) h = refl

  pub shown_all : card_refusal card ≡ 0 → machine_count card ≡ shown_machines card
  unfolding shown_machines
  shown_all e = rw (shown_machines, e)
