-- The ways from a node to an end, and what the stages of the cull leave of them: those that no other way beats on the constraints gone down so far (S-7).
use Rattle.std.specs.Prelude.{◌≡◌, ◌&&◌, ◌∷◌, ◌↔◌, ◌<◌}
use Rattle.basics.specs.Words.{Bool, true, false, List, [], Option, none, some, ℕ, suc, length, get_or, drop, take, all_of, every_below}
use Rattle.machine.specs.declared.Pair.{Pair}
use Rattle.machine.specs.Symbols.{is_pair}
use Rattle.machine.specs.Machine.{Machine}
use Rattle.ranking.specs.Harmony.{better}
use Rattle.card.specs.Card.{machines_of}
use Rattle.candidate.specs.Candidates.{spelled, marks_from}
use Rattle.paths.specs.Costs.{AtMost}
use Rattle.product.specs.Sets.{fits_sets}
use Rattle.product.specs.Nodes.{state_counts, node_count, position_at, states_at}
use Rattle.product.specs.JointStep.{of_each}
use Rattle.product.specs.ProductGraph.{move, ending}
use Rattle.labelling.specs.Labelling.{PositionsDone}
use Rattle.cull.specs.Cull.{exact}
use Rattle.cull.specs.FewestTold.{fewest_in}

-- c is a way from the node u to an end: a list of pairs, of any length, that spells a word with one symbol from each set that is left; every machine
-- takes them in turn from its state there, and ends. Its profile v has the marks of each machine in card order, those for ending too
pub record WayFrom (ms : List Machine) (sets : List ℕ) (u : ℕ) (c : List Pair) (v : List ℕ) : Type 0 where
  pub pairs : all_of is_pair c ≡ true
  pub spells : fits_sets (drop (position_at (state_counts ms) u) sets) (spelled c) ≡ true
  pub marks : of_each (λ m s. marks_from m s c) ms (states_at (state_counts ms) u) ≡ some v

-- v is better than w under the first k constraints of the ranking alone
abbrev pub better_on_first : (k : ℕ) → List ℕ → List ℕ → List ℕ → Bool
better_on_first k ranking v w = better (take k ranking) v w

-- a way from the node u to an end that no way from there beats on the first k constraints
pub record UnbeatenWay (ms : List Machine) (ranking sets : List ℕ) (k u : ℕ) (c : List Pair) : Type 0 where
  pub profile : List ℕ
  pub way : WayFrom ms sets u c profile
  pub unbeaten : (d : List Pair) (w : List ℕ) → WayFrom ms sets u d w → better_on_first k ranking w profile ≡ false

-- the first k stages keep an arc or an ending with these marks at the node u: of each of their constraints, the marks and the fewest where it leads
-- are the fewest from u
abbrev pub is_kept : (ranking xs : List ℕ) (k u : ℕ) (marks : List ℕ) (there : ℕ → Option ℕ) → Bool
is_kept ranking xs k u marks there = every_below (λ i. exact (fewest_in xs i u) (get_or marks (get_or ranking i 0) 0) (there i)) k

-- c is a way from the node u to an end of which the first k stages keep each arc and the ending, told by the slice
unfoldable pub is_left : (ms : List Machine) (ranking sets xs : List ℕ) (k u : ℕ) → List Pair → Bool
is_left ms ranking sets xs k u [] = elim (ending sets ms u) [ none ↦ false | some marks ↦ is_kept ranking xs k u marks (λ i. some 0) ]
is_left ms ranking sets xs k u (p ∷ c) =
    elim (move sets ms u p) [ none ↦ false | some m ↦ is_kept ranking xs k u m.marks (λ i. fewest_in xs i m.target) && is_left ms ranking sets xs k m.target c ]

-- what the first k stages left: from every node to an end exactly the ways that no other way from there beats on the first k constraints
abbrev pub LeavesUnbeaten : (card ranking sets xs : List ℕ) (k : ℕ) → Type 0
LeavesUnbeaten card ranking sets xs k =
    (u : ℕ) → u < node_count (machines_of card) (length sets) → (c : List Pair) → (is_left (machines_of card) ranking sets xs k u c ≡ true) ↔ UnbeatenWay (machines_of card) ranking sets k u c

-- a way from the node u to an end that the first k stages left, with m marks of the constraint k, 0 the highest ranked
pub record LeftWith (ms : List Machine) (ranking sets xs : List ℕ) (k u m : ℕ) : Type 0 where
  pub pairs : List Pair
  pub profile : List ℕ
  pub way : WayFrom ms sets u pairs profile
  pub left : is_left ms ranking sets xs k u pairs ≡ true
  pub has : get_or profile (get_or ranking k 0) 0 ≡ m

-- the counts of the constraint k in the slice are the fewest marks of it from every node to an end, over what the stages before left; none where there
-- is no way
pub record CountsFewest (card ranking sets xs : List ℕ) (k : ℕ) : Type 0 where
  pub fewest : (u m : ℕ) → u < node_count (machines_of card) (length sets) → fewest_in xs k u ≡ some m → LeftWith (machines_of card) ranking sets xs k u m
  pub no_fewer : (u m : ℕ) → u < node_count (machines_of card) (length sets) → LeftWith (machines_of card) ranking sets xs k u m → AtMost ◌<◌ (fewest_in xs k u) m

-- what the slice tells of the stage of the constraint k: the fewest marks that it found, and the ways left after it
pub record StageLeaves (card ranking sets xs : List ℕ) (k : ℕ) : Type 0 where
  pub counts : CountsFewest card ranking sets xs k
  pub ways : LeavesUnbeaten card ranking sets xs (suc k)

-- the ranking was gone down, with a stage for each constraint of the card; the counts of all stages are the labels of the nodes
pub record StagesDone (card ranking sets xs ys : List ℕ) : Type 0 where
  pub stages : (k : ℕ) → k < length (machines_of card) → StageLeaves card ranking sets ys k
  pub labels : PositionsDone card ranking sets xs ys 0
