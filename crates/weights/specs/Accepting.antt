-- What input promises that the checks before the search accept.
use Rattle.std.specs.Prelude.{◌≡◌, ◌*◌, ◌≤◌}
use Rattle.basics.specs.Words.{true, List, ℕ, length, lit<}
use Rattle.card.specs.Layout.{machine_count, symbol_count}
use Rattle.card.specs.Card.{card_refusal, machines_of}
use Rattle.product.specs.Nodes.{node_count}
use Rattle.product.specs.Optimizing.{sound_word}
use Rattle.product.specs.Weights.{sound_weights}

pub record Accepts (card weights word : List ℕ) (room : ℕ) : Type 0 where
  pub accepted : card_refusal card ≡ 0
  pub weighs : sound_weights (machine_count card) weights ≡ true
  pub sound : sound_word (symbol_count card) word ≡ true
  pub nodes_fit : 2 * node_count (machines_of card) (length word) ≤ room
