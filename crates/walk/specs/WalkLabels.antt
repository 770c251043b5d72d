-- What the walk asks of the labels, whatever the order.
use Rattle.std.specs.Prelude.{◌≡◌, ◌+◌, ◌*◌, ◌%◌, ◌<◌, ◌≤◌}
use Rattle.basics.specs.Words.{List, some, ℕ, length}
use Rattle.card.specs.Card.{machines_of}
use Rattle.paths.specs.Costs.{Labels}
use Rattle.paths.specs.Ranked.{Ranked, ranked_costs}
use Rattle.paths.specs.Labels.{Closed, Attained}
use Rattle.product.specs.Nodes.{product, state_counts}
use Rattle.product.specs.ProductGraph.{card_start}
use Rattle.product.specs.Setting.{Setting}
use Rattle.cells.specs.Cells.{low_of}
use Rattle.cells.specs.Columns.{WeightsOf}
use Rattle.cells.specs.Labels.{OwnCell}
use Rattle.cells.specs.Trying.{label_from}
use Rattle.entering.specs.Entering.{cell_graph}
use Rattle.tight.specs.Labels.{cell_of, HasLabel}
use Rattle.tight.specs.Keeping.{Fits}

-- the last 16 bits of a low number count the pairs
abbrev pub pair_count : Ranked 1 → ℕ
pair_count c = c.1 % 65536

-- closed and attained labels, by weights that leave the last 16 bits of a low number to the pairs
pub record Labelled (card ws sets : List ℕ) (P : ℕ) (L : Labels (ranked_costs 1)) : Type 0 where
  pub setting : Setting card sets P
  pub weights : WeightsOf (state_counts (machines_of card)) ws
  pub pairs : (m : ℕ) → low_of ws m % 65536 ≡ 0
  pub closed : Closed (cell_graph ws card sets) L
  pub attained : Attained (cell_graph ws card sets) L

-- the labels L are in the slices, and leave room for a pair; the answer has room for the pairs of the start's
pub record WalkLabels (ranked sums card counts ws sets : List ℕ) (room : ℕ) (L : Labels (ranked_costs 1)) : Type 0 where
  pub labelled : Labelled card ws sets (product counts) L
  pub stored : (u : ℕ) → u < (length sets + 1) * product counts → L u ≡ label_from (cell_of ranked sums u)
  pub own : (u : ℕ) → u < (length sets + 1) * product counts → OwnCell (cell_of ranked sums u)
  pub fits : (u : ℕ) → u < (length sets + 1) * product counts → Fits (cell_of ranked sums u)
  pub cost : Ranked 1
  pub cost_is : L (card_start card) ≡ some cost
  pub answer_fits_lem : 2 * pair_count cost ≤ room

pub record WalkPre (ranked sums card counts ws sets : List ℕ) (size room : ℕ) : Type 0 where
  pub labels : Labels (ranked_costs 1)
  pub walk_labels : WalkLabels ranked sums card counts ws sets room labels
  pub counts_are : counts ≡ state_counts (machines_of card)
  pub size_is : size ≡ product counts
  pub nodes : (u : ℕ) → u < (length sets + 1) * product counts → HasLabel ranked sums u
