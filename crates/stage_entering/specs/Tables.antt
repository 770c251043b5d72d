-- What is written down of a card's machines for every stage.
use Rattle.std.specs.Prelude.{◌≡◌, ◌+◌, ◌*◌, ◌≤◌}
use Rattle.basics.specs.Words.{List, ℕ, length}
use Rattle.machine.specs.Symbols.{empty_symbol}
use Rattle.card.specs.Card.{machines_of, card_refusal}
use Rattle.product.specs.Nodes.{state_counts}
use Rattle.tables.specs.Places.{six_places}
use Rattle.cells.specs.declared.Groups.{Groups}
use Rattle.cells.specs.Cells.{places}
use Rattle.cells.specs.Columns.{WeightsOf}
use Rattle.cells.specs.Groups.{GroupsOf}
use Rattle.columns.specs.Prepared.{Prepared}
use Rattle.insertions.specs.Listed.{Listed}

-- an accepted card, the state counts of its machines, their weights and groups, room for the columns
pub record ListPre (card counts ws steps : List ℕ) (g : Groups) : Type 0 where
  pub accepted : card_refusal card ≡ 0
  pub counts_are : counts ≡ state_counts (machines_of card)
  pub weights : WeightsOf counts ws
  pub groups : GroupsOf counts g
  pub few : g.front + g.back ≤ 66
  pub room : 65 * places counts ≤ length steps

-- lists of the insertions of outputs that tell of all others, with the marks in the order of the ranking
pub record ListsOf (card ranking entries ends : List ℕ) : Type 0 where
  pub kept : ℕ
  pub width : ℕ
  pub steps : List ℕ
  pub prepared : Prepared (machines_of card) empty_symbol width steps kept
  pub listed : Listed (machines_of card) (six_places ranking) kept entries ends
