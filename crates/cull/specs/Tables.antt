-- The tables of a card's machines that every stage works with.
use Rattle.std.specs.Prelude.{◌≡◌, ◌+◌, ◌*◌, ◌≤◌}
use Rattle.basics.specs.Words.{true, List, ℕ, length}
use Rattle.ranking.specs.Rankings.{is_ranking}
use Rattle.card.specs.Layout.{machine_count}
use Rattle.card.specs.Card.{machines_of}
use Rattle.product.specs.Nodes.{state_counts, product}
use Rattle.product.specs.Setting.{Setting}
use Rattle.cells.specs.declared.Groups.{Groups}
use Rattle.cells.specs.Cells.{places}
use Rattle.cells.specs.Columns.{WeightsOf}
use Rattle.cells.specs.Groups.{GroupsOf}
use Rattle.columns.specs.Filling.{Small}
use Rattle.tables.specs.Places.{six_places}
use Rattle.insertions.specs.RankedWeights.{RankedWeights}

-- a setting with the tables' sizes: state counts, weights, groups, room for the labels and for 65 columns
pub record TablesPre (work card counts ws sets steps : List ℕ) (g : Groups) : Type 0 where
  pub setting : Setting card sets (product counts)
  pub counts_are : counts ≡ state_counts (machines_of card)
  pub weights : WeightsOf counts ws
  pub groups : GroupsOf counts g
  pub few : g.front + g.back ≤ 66
  pub room : length work ≡ (length sets + 1) * product counts * 8
  pub columns : 65 * places counts ≤ length steps
  pub small : Small steps

-- the weights are in the order of a ranking of the card's machines
pub record RankedBy (card ranking ws : List ℕ) : Type 0 where
  pub weights : RankedWeights (six_places ranking) ws
  pub ranks : is_ranking (machine_count card) ranking ≡ true
