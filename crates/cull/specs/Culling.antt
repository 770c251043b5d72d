-- The stages of the cull on a card: what holds in one, position by position, and between them.
use Rattle.std.specs.Prelude.{◌≡◌, ◌+◌, ◌*◌, ◌≤◌, ◌<◌}
use Rattle.basics.specs.Words.{List, Option, some, ℕ, suc, length, get_or}
use Rattle.card.specs.Card.{machines_of}
use Rattle.paths.specs.Bounds.{Sized}
use Rattle.paths.specs.Graph.{Graph}
use Rattle.paths.specs.Costs.{Labels}
use Rattle.paths.specs.Positions.{Done, Entering, Entered}
use Rattle.paths.specs.Ranked.{letter_count, count_at, ranked_costs}
use Rattle.tables.specs.Work.{state_of}
use Rattle.product.specs.Nodes.{state_counts}
use Rattle.product.specs.ProductGraph.{pairs}
use Rattle.product.specs.Laws.Edges.{product_sized}
use Rattle.tables.specs.Places.{six_places}
use Rattle.product.specs.Setting.{position_of, Setting}
use Rattle.tables.specs.Engine.{engine_graph}
use Rattle.tables.specs.JointNumbers.{ending_from}
use Rattle.cells.specs.declared.Groups.{Groups}
use Rattle.stage_entering.specs.Tables.{ListPre, ListsOf}
use Rattle.stage_entering.specs.Inputs.{InOrder}
use Rattle.cull.specs.Entering.{end_sum}
use Rattle.stage_entering.specs.declared.Site.{Site}
use Rattle.stage_entering.specs.Entering.{codes_at, lane_ending}
use Rattle.cull.specs.Cull.{left, FewestBelow}
use Rattle.cull.specs.OneConstraint.{LeastPrices}
use Rattle.cull.specs.Stages.{stage}
use Rattle.stage.specs.StageLabels.{count_of, pair_count_of, stage_label}
use Rattle.cull.specs.FewestTold.{fewest_in}

abbrev pub pairs_counted : (card ranking sets : List ℕ) → Sized (engine_graph (machines_of card) ranking sets) (letter_count 6)
pairs_counted card ranking sets = product_sized (six_places ranking) sets (machines_of card)

-- what the stage k works on, with the fewest marks that the stages before found
abbrev pub stage_graph : (card ranking sets : List ℕ) (fewest : ℕ → ℕ → Option ℕ) (k : ℕ) → Graph (ranked_costs 1) pairs
stage_graph card ranking sets fewest k = stage 6 (engine_graph (machines_of card) ranking sets) (pairs_counted card ranking sets) fewest k

-- the counts below k in the slice are the fewest marks that the stages below k found
pub record Culled (card ranking sets : List ℕ) (fewest : ℕ → ℕ → Option ℕ) (xs : List ℕ) (k : ℕ) : Type 0 where
  pub below : FewestBelow (engine_graph (machines_of card) ranking sets) (count_at 6) fewest k
  pub told : (i u m : ℕ) → i < k → fewest i u ≡ some m → count_of xs i u ≡ m

-- what the first k stages left, told by the counts in the slice
abbrev pub left_by : (card ranking sets xs : List ℕ) (k : ℕ) → Graph (ranked_costs 6) pairs
left_by card ranking sets xs k = left (engine_graph (machines_of card) ranking sets) (count_at 6) (fewest_in xs) k

-- in the stage k: the positions from i on are done
pub record StageAt (card ranking sets xs : List ℕ) (k i : ℕ) : Type 0 where
  pub fewest : ℕ → ℕ → Option ℕ
  pub culled : Culled card ranking sets fewest xs k
  pub done : Done (stage_graph card ranking sets fewest k) (position_of card) (stage_label xs k) i

-- what a stage is given: an accepted card, a ranking and sets, the weights of the machines in the order of the ranking, and the insertions in lists
pub record CullPre (card ranking sets cs ws entries ends xs : List ℕ) (P k : ℕ) : Type 0 where
  pub setting : Setting card sets P
  pub counts_are : cs ≡ state_counts (machines_of card)
  pub order : InOrder ranking ws
  pub lists : ListsOf card ranking entries ends
  pub room : length xs ≡ (length sets + 1) * P * 8
  pub ranked : length ranking ≡ length cs
  pub stage : k < 6

-- the position i was entered
pub record PositionEntered (card ranking sets xs ys : List ℕ) (i k : ℕ) : Type 0 where
  pub size : length ys ≡ length xs
  pub fewest : ℕ → ℕ → Option ℕ
  pub culled : Culled card ranking sets fewest ys k
  pub entered : Entered (stage_graph card ranking sets fewest k) (position_of card) (stage_label ys k) i

-- what a position is lent: the tables of the machines, room for columns and for four joint steps
pub record LentTables (card counts ws steps high low : List ℕ) (g : Groups) (P : ℕ) : Type 0 where
  pub tables : ListPre card counts ws steps g
  pub codes : P ≡ g.size
  pub high_size : length high ≡ 264
  pub low_size : length low ≡ 264

-- the position i, before the last one, of sets under a ranking whose weights these are; the positions past it are done
pub record SymbolsAt (card ranking sets ws xs : List ℕ) (set i : ℕ) (at : Site) : Type 0 where
  pub setting : Setting card sets (codes_at at)
  pub order : InOrder ranking ws
  pub within : i < length sets
  pub set_is : set ≡ get_or sets i 0
  pub base_is : at.base ≡ i * codes_at at
  pub room : length xs ≡ (length sets + 1) * codes_at at * 8
  pub stage : at.stage < 6
  pub later : StageAt card ranking sets xs at.stage (suc i)

-- what entering such a position needs: the tables, room for columns and for four joint steps
pub record SymbolsPre (xs card counts ws steps high low : List ℕ) (set : ℕ) (at : Site) : Type 0 where
  pub ranking : List ℕ
  pub sets : List ℕ
  pub position : ℕ
  pub given : SymbolsAt card ranking sets ws xs set position at
  pub tables : ListPre card counts ws steps at.groups
  pub high_size : length high ≡ 264
  pub low_size : length low ≡ 264

-- it was entered, whatever the ranking, the sets and the position
pub record SymbolsEntered (card ws xs ys : List ℕ) (set : ℕ) (at : Site) : Type 0 where
  pub enters : (ranking sets : List ℕ) (i : ℕ) → SymbolsAt card ranking sets ws xs set i at → PositionEntered card ranking sets xs ys i at.stage

-- what entering the last position needs: its nodes, the tables, room for columns and for four joint steps
pub record LastPre (xs card counts ws steps high low : List ℕ) (at : Site) : Type 0 where
  pub nodes : (at.base + codes_at at) * 8 ≤ length xs
  pub few_nodes : at.base + codes_at at ≤ 3200
  pub stage : at.stage < 6
  pub tables : ListPre card counts ws steps at.groups
  pub high_size : length high ≡ 264
  pub low_size : length low ≡ 264

-- before the stage k: the counts below k are the fewest marks of the stages below k
pub record StagePre (card ranking sets cs ws entries ends xs : List ℕ) (P k : ℕ) : Type 0 where
  pub given : CullPre card ranking sets cs ws entries ends xs P k
  pub before : FewestBelow (engine_graph (machines_of card) ranking sets) (count_at 6) (fewest_in xs) k

-- after the stage k: they still are, and the labels are the least in what those stages left
pub record StageDone (card ranking sets xs ys : List ℕ) (k : ℕ) : Type 0 where
  pub size : length ys ≡ length xs
  pub before : FewestBelow (engine_graph (machines_of card) ranking sets) (count_at 6) (fewest_in ys) k
  pub labels : LeastPrices 6 k (left_by card ranking sets ys k) (stage_label ys k)

-- ys is xs with no label at the first n nodes, whose counts stay
pub record Blanked (xs ys : List ℕ) (n : ℕ) : Type 0 where
  pub size : length ys ≡ length xs
  pub states : (u : ℕ) → u < n → state_of ys u ≡ 0
  pub counts : (i w : ℕ) → i < 6 → count_of ys i w ≡ count_of xs i w

-- ys is xs with no marks of the constraint k at the first n nodes
pub record PlaceCleared (xs ys : List ℕ) (n k : ℕ) : Type 0 where
  pub size : length ys ≡ length xs
  pub states : (w : ℕ) → state_of ys w ≡ state_of xs w
  pub pair_counts : (w : ℕ) → pair_count_of ys w ≡ pair_count_of xs w
  pub counts : (i w : ℕ) → i < k → count_of ys i w ≡ count_of xs i w
  pub cleared : (w : ℕ) → w < n → count_of ys k w ≡ 0

-- the endings of the nodes from u on, up to the node u', were tried
pub record EndsTried (card ranking sets xs ys : List ℕ) (k u u' : ℕ) : Type 0 where
  pub size : length ys ≡ length xs
  pub counts : (i w : ℕ) → i < k → count_of ys i w ≡ count_of xs i w
  pub enters : (fewest : ℕ → ℕ → Option ℕ) → Culled card ranking sets fewest xs k → (K : Labels (ranked_costs 1))
      → Entering (stage_graph card ranking sets fewest k) (position_of card) K (stage_label xs k) (length sets) (λ w. w < u) (λ _ _. ⊥)
      → Entering (stage_graph card ranking sets fewest k) (position_of card) K (stage_label ys k) (length sets) (λ w. w < u') (λ _ _. ⊥)

-- the first n of the nodes from b on were tried by their endings: by those of a card, if the numbers are theirs
pub record CodesEnded (xs ys high low : List ℕ) (front back k b n : ℕ) : Type 0 where
  pub size : length ys ≡ length xs
  pub counts : (i w : ℕ) → i < k → count_of ys i w ≡ count_of xs i w
  pub ends : (card ranking sets : List ℕ) (P : ℕ) → Setting card sets P → b ≡ length sets * P → n ≤ P
      → ((c : ℕ) → c < n → lane_ending (end_sum high front back c) (end_sum low front back c) ≡ ending_from (six_places ranking) (machines_of card) c)
      → EndsTried card ranking sets xs ys k (length sets * P) (length sets * P + n)

-- the nodes of the last position were tried by their endings, whatever the ranking whose weights these are
pub record LastTried (card ws xs ys : List ℕ) (at : Site) : Type 0 where
  pub ends : (ranking sets : List ℕ) (P : ℕ) → Setting card sets P → P ≡ codes_at at → at.base ≡ length sets * P → InOrder ranking ws
      → EndsTried card ranking sets xs ys at.stage (length sets * P) (length sets * P + P)
