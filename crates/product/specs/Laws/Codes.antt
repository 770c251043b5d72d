-- Laws for an engine: a node's moves and ending by its position and its code, and the step by codes machine by machine.
use Rattle.std.specs.Prelude.{◌≡◌, ◌∷◌, ◌+◌, ◌*◌, ◌/◌, ◌%◌, ◌<◌, ◌≤◌}
use Rattle.basics.specs.Words.{refl, ◌∙◌, ap, true, List, [], map, Option, some, none, Option·none-ne-some, ℕ, length, get_or, member}
use borrow.Author.Tests.{eq-eqb, ne_eqb}
use Rattle.machine.specs.declared.Pair.{Pair}
use Rattle.machine.specs.Symbols.{empty_symbol, is_pair}
use Rattle.machine.specs.Machine.{Machine, step_of}
use Rattle.product.specs.Nodes.{product, state_counts, code_of, states_of}
use Rattle.product.specs.JointStep.{and_those, of_each, joint_step}
use Rattle.paths.specs.Costs.{Costs}
use Rattle.paths.specs.Graph.{Edge}
use Rattle.product.specs.Prices.{Price}
use Rattle.product.specs.ProductGraph.{advance, Move, move_by, move, ending, priced_move, priced_ending, product_graph}
use Rattle.product.specs.Codes.{coded, code_step, code_ending, moved_by}
use Rattle.product.specs.Laws.Nodes.{position_at_lem, states_at_lem, code_below}
use Rattle.product.specs.Laws.JointStep.{AllSound, joint_below}
use Rattle.product.specs.Laws.PathCost.{advance_insertion, advance_symbol}

-- a pair with an in is a pair
pub symbol_pair : (p : Pair) → (p.input ≡ empty_symbol → ⊥) → is_pair p ≡ true
symbol_pair p n = rw (ne_eqb p.input 0 n)

module _ (sets : List ℕ) (ms : List Machine) where
  by_code : (j : ℕ) (o : Option (List (ℕ × ℕ))) → move_by (state_counts ms) (some j) o ≡ moved_by (j * product (state_counts ms)) (coded (state_counts ms) o)
  by_code j none = refl
  by_code j (some steps) = refl

  -- a move at the node of a position and a code
  at_node : (i c : ℕ) → c < product (state_counts ms) → (p : Pair) → is_pair p ≡ true
      → move sets ms (i * product (state_counts ms) + c) p ≡ move_by (state_counts ms) (advance sets i p) (joint_step ms (states_of (state_counts ms) c) p)
  unfolding move
  at_node i c h p t = rw (t, move, position_at_lem (state_counts ms) i c h, states_at_lem (state_counts ms) i c h)

  module _ (i c : ℕ) (h : c < product (state_counts ms)) (p : Pair) where
    -- insertions are the same at every position, 0 to n
    pub insertion_move : i ≤ length sets → is_pair p ≡ true → p.input ≡ empty_symbol → move sets ms (i * product (state_counts ms) + c) p ≡ moved_by (i * product (state_counts ms)) (code_step ms c p)
    insertion_move k t e = at_node i c h p t ∙ (rw (advance_insertion sets i p e k) (by_code i (joint_step ms (states_of (state_counts ms) c) p)))

    -- any other pair reads a symbol of the set at the position
    pub symbol_move : (p.input ≡ empty_symbol → ⊥) → member (get_or sets i 0) p.input ≡ true → move sets ms (i * product (state_counts ms) + c) p ≡ moved_by ((i + 1) * product (state_counts ms)) (code_step ms c p)
    symbol_move n e = at_node i c h p (symbol_pair p n) ∙ (rw (advance_symbol sets i p n e) (by_code (i + 1) (joint_step ms (states_of (state_counts ms) c) p)))

  -- an ending is past the last set
  pub ending_at_lem : (c : ℕ) → c < product (state_counts ms) → ending sets ms (length sets * product (state_counts ms) + c) ≡ code_ending ms c
  unfolding ending
  ending_at_lem c h = rw (position_at_lem (state_counts ms) (length sets) c h, eq-eqb (length sets) (length sets) refl, ending, states_at_lem (state_counts ms) (length sets) c h)

-- ---- the same as edges and endings, at any price

-- a step by codes as an edge to the nodes from a number on
abbrev pub priced_step : {costs : Costs} (price : Price costs) (base : ℕ) → Option Move → Option (Edge costs.Cost)
priced_step price base none = none
priced_step price base (some m) = some (record { target = base + m.target; cost = price.of m.marks 1 })

module _ {costs : Costs} (price : Price costs) (sets : List ℕ) (ms : List Machine) where
  by_step : (base : ℕ) (o : Option Move) → priced_move price sets ms (moved_by base o) ≡ priced_step price base o
  by_step base none = refl
  by_step base (some m) = refl

  module _ (i c : ℕ) (h : c < product (state_counts ms)) (p : Pair) where
    pub insertion_edge_lem : i ≤ length sets → is_pair p ≡ true → p.input ≡ empty_symbol → (product_graph price sets ms).edge (i * product (state_counts ms) + c) p ≡ priced_step price (i * product (state_counts ms)) (code_step ms c p)
    insertion_edge_lem k t e = ap (priced_move price sets ms) (insertion_move sets ms i c h p k t e) ∙ by_step (i * product (state_counts ms)) (code_step ms c p)

    pub symbol_edge : (p.input ≡ empty_symbol → ⊥) → member (get_or sets i 0) p.input ≡ true → (product_graph price sets ms).edge (i * product (state_counts ms) + c) p ≡ priced_step price ((i + 1) * product (state_counts ms)) (code_step ms c p)
    symbol_edge n e = ap (priced_move price sets ms) (symbol_move sets ms i c h p n e) ∙ by_step ((i + 1) * product (state_counts ms)) (code_step ms c p)

  module _ (c : ℕ) (h : c < product (state_counts ms)) where
    pub ending_edge : (product_graph price sets ms).ending (length sets * product (state_counts ms) + c) ≡ priced_ending price sets ms (code_ending ms c)
    ending_edge = ap (priced_ending price sets ms) (ending_at_lem sets ms c h)

-- ---- machine by machine, the first one's state being the quotient of the code by the product of the other counts

pub step_no_machine : (c : ℕ) (p : Pair) → code_step [] c p ≡ some (record { target = 0; marks = [] })
unfolding of_each code_of states_of
step_no_machine c p = refl

abbrev pub with_first : ℕ → Option (ℕ × ℕ) → Option Move → Option Move
with_first P none rest = none
with_first P (some r) none = none
with_first P (some r) (some m) = some (record { target = r.0 * P + m.target; marks = r.1 ∷ m.marks })

pub step_next_machine : (m : Machine) (ms : List Machine) (c : ℕ) (p : Pair)
    → code_step (m ∷ ms) c p ≡ with_first (product (state_counts ms)) (step_of m (c / product (state_counts ms)) p) (code_step ms (c % product (state_counts ms)) p)
unfolding of_each code_of states_of
step_next_machine m ms c p = go (step_of m (c / product (state_counts ms)) p) (joint_step ms (states_of (state_counts ms) (c % product (state_counts ms))) p)
  where
    go : (o : Option (ℕ × ℕ)) (j : Option (List (ℕ × ℕ))) → coded (state_counts (m ∷ ms)) (and_those o j) ≡ with_first (product (state_counts ms)) o (coded (state_counts ms) j)
    go none j = refl
    go (some r) none = refl
    go (some r) (some steps) = refl

-- it leads to a code
pub code_step_below : {S : ℕ} {ms : List Machine} → AllSound S ms → (c : ℕ) (p : Pair) (m : Move) → code_step ms c p ≡ some m → m.target < product (state_counts ms)
code_step_below {ms = ms} sound c p m h = go (joint_step ms (states_of (state_counts ms) c) p) refl h
  where
    go : (o : Option (List (ℕ × ℕ))) → joint_step ms (states_of (state_counts ms) c) p ≡ o → coded (state_counts ms) o ≡ some m → m.target < product (state_counts ms)
    go none e k = absurd (Option·none-ne-some m k)
    go (some steps) e k =
        let q : m ≡ record { target = code_of (state_counts ms) (map (λ r. r.0) steps); marks = map (λ r. r.1) steps } = cc in
        rw q (code_below (state_counts ms) (map (λ r. r.0) steps) (joint_below sound (states_of (state_counts ms) c) p steps e))
