-- The state counts of a card's machines at the front of an array.
use Rattle.std.specs.Prelude.{◌≡◌, ◌∷◌, ◌≤◌}
use Rattle.basics.specs.Words.{sym, ◌∙◌, ap, true, List, [], ℕ, zero, suc, arith, length, take, length-map}
use Rattle.ranking.specs.Rankings.{is_ranking}
use Rattle.card.specs.Layout.{machine_count, symbol_count}
use Rattle.card.specs.Card.{machines_of, card_refusal}
use Rattle.card.specs.Accepted.{accepted}
use Rattle.product.specs.Nodes.{state_count_of, state_counts}
use Rattle.product.specs.Laws.Accepted.{accepted_machines}
use Rattle.tables.specs.Places.{six_places, SixPlaces}
use Rattle.tables.specs.Tables.{CountsOfSome}
use Rattle.tables.specs.Laws.Harmony.{six_places_lem}
use Rattle.tables.specs.Laws.Cards.{card_machines}

-- a front that is as long as was asked is there
front_there : (n : ℕ) (l : List ℕ) → length (take n l) ≡ n → n ≤ length l
front_there zero l h = omega arith
front_there (suc n) [] h = absurd (omega (arith, h))
front_there (suc n) (x ∷ l) h = omega (arith, front_there n l (omega (arith, h)))

-- the places of a ranking are six
pub places_six : (card : List ℕ) → card_refusal card ≡ 0 → (ranking : List ℕ) {ps : List ℕ} → ps ≡ six_places ranking → is_ranking (machine_count card) ranking ≡ true → SixPlaces ps
places_six card ok ranking p ranks = rw p (six_places_lem (machine_count card) ranking (accepted card ok).head.counts.machines ranks)

module _ (card : List ℕ) (ok : card_refusal card ≡ 0) (r : List ℕ) (k : ℕ) (q : k ≡ machine_count card) (e : take (machine_count card) r ≡ state_counts (machines_of card)) where
  pub front_is : take k r ≡ state_counts (machines_of card)
  front_is = rw q e

  pub front_length : k ≡ length (take k r)
  front_length = q ∙ sym (ap length front_is ∙ length-map (machines_of card) state_count_of ∙ (accepted_machines card ok).count)

  pub front_fits : k ≤ length r
  front_fits = front_there k r (sym front_length)

  -- they are the counts of some machines
  pub front_counts : CountsOfSome (take k r)
  front_counts = record { symbols = symbol_count card; machines = machines_of card; card = card_machines card ok; are = front_is }
