-- What an engine is given once the checks of the card and of the word or the sets are passed; a ranking, or weights, come to it.
use Rattle.std.specs.Prelude.{◌≡◌, ◌≤◌}
use Rattle.basics.specs.Words.{true, List, ℕ, length, get_or, member}
use Rattle.card.specs.Layout.{symbol_count}
use Rattle.card.specs.Card.{machines_of, card_refusal}
use Rattle.product.specs.Nodes.{product, state_counts, position_at}

-- the input position of a node
abbrev pub position_of : List ℕ → ℕ → ℕ
position_of card u = position_at (state_counts (machines_of card)) u

-- an accepted card, and at most 24 sets of its symbols; P is the product of the state counts
pub record Setting (card sets : List ℕ) (P : ℕ) : Type 0 where
  pub accepted : card_refusal card ≡ 0
  pub few : length sets ≤ 24
  pub symbols : (i x : ℕ) → member (get_or sets i 0) x ≡ true → (1 ≤ x) × (x ≤ symbol_count card)
  pub states : P ≡ product (state_counts (machines_of card))
