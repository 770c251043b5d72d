-- Entering a position: by the symbols of its set, or, at the last one, by the endings.
use Rattle.std.specs.Prelude.{◌≡◌, ◌+◌, ◌*◌, ◌<◌, ◌≤◌}
use Rattle.basics.specs.Words.{List, none, ℕ, suc, length, get_or, replicate}
use Rattle.card.specs.Card.{machines_of, card_refusal}
use Rattle.paths.specs.Costs.{Labels}
use Rattle.paths.specs.Ranked.{ranked_costs}
use Rattle.paths.specs.Graph.{Graph}
use Rattle.paths.specs.Positions.{Done, Entered}
use Rattle.product.specs.Nodes.{state_counts, product}
use Rattle.product.specs.ProductGraph.{pairs, priced_graph}
use Rattle.product.specs.Setting.{position_of, Setting}
use Rattle.cells.specs.declared.Groups.{Groups}
use Rattle.cells.specs.Cells.{nowhere, high_of, places}
use Rattle.cells.specs.Columns.{weighed, WeightsOf}
use Rattle.cells.specs.Groups.{GroupsOf}
use Rattle.cells.specs.Labels.{no_label, cell_at, OwnCell, next_cell, NextFits}
use Rattle.cells.specs.Trying.{label_from, cell_price}
use Rattle.cells.specs.Laws.Position.{placed}

-- the product of a card's machines over sets of symbols, whose costs are the two numbers that the weights make of marks and pairs
abbrev pub cell_graph : (ws card sets : List ℕ) → Graph (ranked_costs 1) pairs
cell_graph ws card sets = priced_graph (cell_price ws) card sets

-- what the marks of K machines add at most, 15 each
abbrev pub most_of : (ℕ → ℕ) → ℕ → ℕ
most_of weight K = weighed weight 0 (replicate K 15)

-- the labels of the next position, with room for one pair more
pub record NextRoom (next ws : List ℕ) (K P : ℕ) : Type 0 where
  pub labels : (t : ℕ) → t < P → OwnCell (next_cell next t)
  pub fits : NextFits next
  pub room : (t : ℕ) → t < P → (next_cell next t).high < nowhere → (next_cell next t).high + most_of (high_of ws) K < nowhere

-- no code below P has a label
abbrev pub Blank : List ℕ → ℕ → Type 0
Blank own P = (c : ℕ) → c < P → cell_at own c ≡ record { high = no_label; low = 0 }

-- what both ways of entering need: an accepted card, the state counts of its machines, their weights and groups, room for the columns and the labels
pub record Ready (card counts ws own steps : List ℕ) (W : ℕ) (g : Groups) : Type 0 where
  pub accepted : card_refusal card ≡ 0
  pub counts_are : counts ≡ state_counts (machines_of card)
  pub width : W ≡ places counts
  pub weights : WeightsOf counts ws
  pub groups : GroupsOf counts g
  pub few : g.front + g.back ≤ 66
  pub room : 65 * W ≤ length steps
  pub size : length own ≡ 256

-- labels of a position: two numbers for each of 128 codes
pub record Position (own : List ℕ) (P : ℕ) : Type 0 where
  pub size : length own ≡ 256
  pub labels : (c : ℕ) → c < P → OwnCell (cell_at own c)

-- own became own' by the pairs of these symbols and the labels of the next position: whatever the sets are, a position whose set this is was entered
pub record SymbolsEntered (card ws own' next : List ℕ) (symbols : ℕ) : Type 0 where
  pub position : Position own' (product (state_counts (machines_of card)))
  pub entered : (sets : List ℕ) (P i : ℕ) (L : Labels (ranked_costs 1)) → Setting card sets P → i < length sets → get_or sets i 0 ≡ symbols
      → Done (cell_graph ws card sets) (position_of card) L (suc i) → ((t : ℕ) → t < P → L ((i + 1) * P + t) ≡ label_from (next_cell next t))
      → Entered (cell_graph ws card sets) (position_of card) (placed (i * P) P L (cell_at own')) i

-- own' has the endings
pub record EndingsEntered (card ws own' : List ℕ) : Type 0 where
  pub position : Position own' (product (state_counts (machines_of card)))
  pub entered : (sets : List ℕ) (P : ℕ) → Setting card sets P → Entered (cell_graph ws card sets) (position_of card) (placed (length sets * P) P (λ _. none) (cell_at own')) (length sets)
