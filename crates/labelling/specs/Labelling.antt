-- Labelling all nodes, position by position, from the last to the first.
use Rattle.std.specs.Prelude.{◌≡◌, ◌≢◌, ◌+◌, ◌*◌, ◌^◌, ◌<◌, ◌≤◌}
use Rattle.basics.specs.Words.{Bool, true, false, List, some, ℕ, length}
use Rattle.ranking.specs.Rankings.{is_ranking}
use Rattle.machine.specs.Symbols.{empty_symbol}
use Rattle.card.specs.Layout.{machine_count}
use Rattle.card.specs.Card.{machines_of}
use Rattle.paths.specs.Costs.{Labels}
use Rattle.paths.specs.Ranked.{Ranked, ranked_costs}
use Rattle.paths.specs.Labels.{Attained}
use Rattle.paths.specs.Positions.{Done}
use Rattle.product.specs.Nodes.{state_counts}
use Rattle.product.specs.Setting.{position_of, Setting}
use Rattle.tables.specs.Work.{label_of}
use Rattle.tables.specs.Engine.{engine_graph}
use Rattle.tables.specs.Places.{SixPlaces}
use Rattle.settling.specs.Prices.{SixWeights, most_price, ranked_highs, lows_by}
use Rattle.settling.specs.Insertions.{lists_of}
use Rattle.settling.specs.Settling.{SettlePre, Settled}
use Rattle.cells.specs.Cells.{nowhere, high_of}
use Rattle.cells.specs.Columns.{WeightsOf}
use Rattle.columns.specs.Prepared.{Prepared}
use Rattle.grid.specs.declared.Grid.{Grid}
use Rattle.grid.specs.Grids.{GridOf}
use Rattle.insertions.specs.RankedWeights.{RankedWeights}
use Rattle.insertions.specs.Listed.{Listed}
use Rattle.entering.specs.Entering.{cell_graph, most_of}
use Rattle.labelling.specs.Kinds.{in_counts}
use Rattle.closing.specs.Closing.{Held, ClosePre, ClosedAt}
use Rattle.labelling.specs.Laws.LabelRoom.{LabelRoom}
use Rattle.labelling.specs.Laws.Tied.{SamePrices}

-- what labelling needs
pub record LabelPre (card ranking sets xs : List ℕ) (P : ℕ) : Type 0 where
  pub setting : Setting card sets P
  pub ranks : is_ranking (machine_count card) ranking ≡ true
  pub room : length xs ≡ (length sets + 1) * P * 8

-- the positions from i on are done, in the order of the ranking
pub record PositionsDone (card ranking sets xs ys : List ℕ) (i : ℕ) : Type 0 where
  pub size : length ys ≡ length xs
  pub done : Done (engine_graph (machines_of card) ranking sets) (position_of card) (label_of ys) i

-- ---- the order, by the numbers of the machines

-- a label leaves settling room for 128 pairs more, and can be stored
pub record KeptShort (counts : Bool) (hs : List ℕ) (c : Ranked 1) : Type 0 where
  pub room : LabelRoom (most_price hs) (most_price (lows_by counts)) nowhere c
  pub in_counts_lem : counts ≡ true → c.0 < 2 ^ 48
  pub in_sum : counts ≡ false → (c.0 < 2 ^ 51) × (c.1 < 4096)

-- what labelling asks of an order: the numbers `ws` of the machines make it; `marks` are those by which the lists have marks, in the order of some
-- places; the numbers `hs` of these places price them as the machines do; labels are short
pub record OrderPre (counts : Bool) (card sets ws hs marks : List ℕ) (P : ℕ) : Type 0 where
  pub weights : WeightsOf (state_counts (machines_of card)) ws
  pub marks_are : WeightsOf (state_counts (machines_of card)) marks
  pub order : List ℕ
  pub six : SixPlaces order
  pub ranked : RankedWeights order marks
  pub same : SamePrices order hs (lows_by counts) ws
  pub highs_few : SixWeights hs
  pub if_ranked : counts ≡ true → hs ≡ ranked_highs
  pub most : (K : ℕ) → K ≤ 6 → most_of (high_of ws) K ≤ most_price hs
  pub short : {M : Labels (ranked_costs 1)} → Attained (cell_graph ws card sets) M → (u : ℕ) (c : Ranked 1) → u < (length sets + 1) * P → M u ≡ some c → KeptShort counts hs c

-- ---- the search

-- the slice that is there has room for n labels
pub record Room (ranked sums : List ℕ) (n : ℕ) : Type 0 where
  pub counts : length sums ≡ 0 → length ranked ≡ n * 8
  pub in_sums : length sums ≢ 0 → length sums ≡ n

-- a table has four numbers for each code of two groups: of these codes there are at most 66, and at most one more than the P codes of all machines
pub record JointRoom (P : ℕ) (table : List ℕ) : Type 0 where
  pub room : (n : ℕ) → n ≤ 66 → n ≤ P + 1 → n * 4 ≤ length table

-- a setting with the card's sizes, an order, and room for the labels
pub record SearchPre (ranked sums card : List ℕ) (grid : Grid) (ws hs marks sets : List ℕ) : Type 0 where
  pub setting : Setting card sets grid.size
  pub grid_of : GridOf card grid
  pub order_pre : OrderPre (in_counts sums) card sets ws hs marks grid.size
  pub room : Room ranked sums ((length sets + 1) * grid.size)

-- and lists that have the insertions of outputs that tell of all others
pub record PositionsPre (ranked sums card : List ℕ) (grid : Grid) (ws hs sets steps entries ends : List ℕ) : Type 0 where
  pub marks : List ℕ
  pub search : SearchPre ranked sums card grid ws hs marks sets
  pub kept : ℕ
  pub prepared : Prepared (machines_of card) empty_symbol grid.states steps kept
  pub columns : 65 * grid.states ≤ length steps
  pub listed : Listed (machines_of card) search.order_pre.order kept entries ends

-- the positions from i on are done, and the work slices have their labels
pub record Labelled (card ws sets ranked sums : List ℕ) (i : ℕ) (L : Labels (ranked_costs 1)) : Type 0 where
  pub done : Done (cell_graph ws card sets) (position_of card) L i
  pub held : (u : ℕ) → i ≤ position_of card u → Held ranked sums u (L u)

pub record AllLabelled (card ws sets ranked ranked' sums sums' : List ℕ) : Type 0 where
  pub ranked_size : length ranked' ≡ length ranked
  pub sums_size : length sums' ≡ length sums
  pub labels : Labels (ranked_costs 1)
  pub labelled : Labelled card ws sets ranked' sums' 0 labels

-- ---- one position

-- it may be settled, and closed then
pub record FinishPre (ranked sums hs own next entries ends : List ℕ) (base P : ℕ) : Type 0 where
  pub settle : SettlePre (lists_of entries ends hs (in_counts sums)) own P
  pub close : (ys : List ℕ) → Settled (lists_of entries ends hs (in_counts sums)) own ys → ClosePre ranked sums ys next base P

-- it was settled, and closed
pub record Finished (ranked ranked' sums sums' hs own own' next next' entries ends : List ℕ) (base P : ℕ) : Type 0 where
  pub labels : List ℕ
  pub settled : Settled (lists_of entries ends hs (in_counts sums)) own labels
  pub closed : ClosedAt ranked ranked' sums sums' labels own' next next' base P
