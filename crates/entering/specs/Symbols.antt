-- Entering a position by the symbols of its set: what trying the pairs of one symbol does to its labels.
use Rattle.std.specs.Prelude.{◌≡◌, ◌+◌, ◌*◌, ◌<◌}
use Rattle.basics.specs.Words.{true, List, ℕ, length, get_or, member}
use Rattle.machine.specs.declared.Pair.{Pair}
use Rattle.card.specs.Card.{machines_of}
use Rattle.paths.specs.Costs.{Labels}
use Rattle.paths.specs.Ranked.{ranked_costs}
use Rattle.paths.specs.Positions.{Entering}
use Rattle.product.specs.Nodes.{state_counts, product}
use Rattle.product.specs.Setting.{position_of, Setting}
use Rattle.product.specs.Laws.Entering.{NotLeft, TriedBefore}
use Rattle.cells.specs.Labels.{cell_at, next_cell}
use Rattle.cells.specs.Trying.{label_from}
use Rattle.cells.specs.Laws.Position.{placed}
use Rattle.entering.specs.Entering.{cell_graph, Position}

-- how many codes a card's machines have
abbrev pub codes : List ℕ → ℕ
codes card = product (state_counts (machines_of card))

-- a position before the last one, and labels that are those of `next` at the position behind it
pub record Ahead (card sets next : List ℕ) (i : ℕ) (L : Labels (ranked_costs 1)) : Type 0 where
  pub setting : Setting card sets (codes card)
  pub below : i < length sets
  pub nexts : (t : ℕ) → t < codes card → L ((i + 1) * codes card + t) ≡ label_from (next_cell next t)

-- while the position i is entered: its labels are those of own
abbrev pub EnteringBy : (card ws sets own : List ℕ) (K L : Labels (ranked_costs 1)) (i : ℕ) (Did : ℕ → Pair → Type 0) → Type 0
EnteringBy card ws sets own K L i Did = Entering (cell_graph ws card sets) (position_of card) K (placed (i * codes card) (codes card) L (cell_at own)) i (λ _. ⊥) Did

-- own became own' by the pairs with the input x, at any position whose set has x
pub record InputTried (card ws own own' next : List ℕ) (x : ℕ) : Type 0 where
  pub position : Position own' (codes card)
  pub enters : (sets : List ℕ) (K L : Labels (ranked_costs 1)) (i left : ℕ) → Ahead card sets next i L → member (get_or sets i 0) x ≡ true
      → EnteringBy card ws sets own K L i (NotLeft left) → EnteringBy card ws sets own' K L i (TriedBefore left x (i * codes card + codes card) 0)
