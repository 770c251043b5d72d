-- The product of the machines over a list of sets of symbols as a graph: its letters are the pairs, and its paths from the start are the candidates
-- for the words with one symbol from each set. A word is the case of sets of one symbol.
use Rattle.std.specs.Prelude.{◌≡◌, ◌+◌, ◌<◌}
use Rattle.basics.specs.Words.{true, false, cond, List, map, Option, some, none, Option·none-ne-some, ℕ, length, get_or, eqb, leb, member}
use Rattle.machine.specs.declared.Pair.{Pair}
use Rattle.machine.specs.Symbols.{empty_symbol, is_pair}
use Rattle.machine.specs.Machine.{Machine, start_state}
use Rattle.card.specs.Card.{machines_of}
use Rattle.product.specs.Sets.{singletons}
use Rattle.paths.specs.Total.{Then, then_total, On, on_total, ℕ-total}
use Rattle.paths.specs.Costs.{Costs}
use Rattle.paths.specs.Ranked.{ranked_costs}
use Rattle.paths.specs.Graph.{Alphabet, Edge, Graph}
use Rattle.product.specs.Nodes.{state_counts, node_of, position_at, states_at}
use Rattle.product.specs.JointStep.{joint_step, joint_ending}
use Rattle.product.specs.Prices.{Price, by_ranking}

-- where a pair leads from an input position, 0 to n: an insertion stays there; any other pair needs its in in the set there, and moves on by one.
-- Past the last set there is the empty one
unfoldable pub advance : List ℕ → ℕ → Pair → Option ℕ
advance sets i p =
    elim (eqb p.input empty_symbol) [
      | true ↦ cond (leb i (length sets)) (some i) none
      | false ↦ cond (member (get_or sets i 0) p.input) (some (i + 1)) none
    ]

-- a move in the product: the node that it leads to, and the marks of each machine
pub record Move : Type 0 where
  pub target : ℕ
  pub marks : List ℕ

abbrev pub move_by : List ℕ → Option ℕ → Option (List (ℕ × ℕ)) → Option Move
move_by qs none steps = none
move_by qs (some i) none = none
move_by qs (some i) (some steps) = some (record { target = node_of qs i (map (λ r. r.0) steps); marks = map (λ r. r.1) steps })

-- taking a pair at a node
unfoldable pub move : List ℕ → List Machine → ℕ → Pair → Option Move
move sets ms u p =
    let qs = state_counts ms in
    elim (is_pair p) [ true ↦ move_by qs (advance sets (position_at qs u) p) (joint_step ms (states_at qs u) p) | false ↦ none ]

-- ending at a node: every set is passed, and every machine ends
unfoldable pub ending : List ℕ → List Machine → ℕ → Option (List ℕ)
ending sets ms u = let qs = state_counts ms in elim (eqb (position_at qs u) (length sets)) [ true ↦ joint_ending ms (states_at qs u) | false ↦ none ]

-- position 0, every machine in its start state
abbrev pub start_node : List Machine → ℕ
start_node ms = node_of (state_counts ms) 0 (map (λ m. start_state) ms)

-- the pairs in their order: by in, then by out
abbrev pub bytes : Pair → ℕ × ℕ
bytes p = (p.input, p.output)

pub same_bytes : (p q : Pair) → bytes p ≡ bytes q → p ≡ q
same_bytes p q e = λ i. record { input = (e i).0; output = (e i).1 }

abbrev pub pairs : Alphabet
pairs = record {
  Letter = Pair;
  ◌◃◌ = On bytes (Then ◌<◌ ◌<◌);
  total = on_total bytes (Then ◌<◌ ◌<◌) same_bytes (then_total ◌<◌ ◌<◌ ℕ-total ℕ-total);
}

module _ {costs : Costs} (price : Price costs) (sets : List ℕ) (ms : List Machine) where
  -- a move costs the price of its marks and one pair; ending costs the price of its marks and no pair
  abbrev pub priced_move : Option Move → Option (Edge costs.Cost)
  priced_move none = none
  priced_move (some m) = some (record { target = m.target; cost = price.of m.marks 1 })

  abbrev pub priced_ending : Option (List ℕ) → Option costs.Cost
  priced_ending none = none
  priced_ending (some marks) = some (price.of marks 0)

  pub positive : (u : ℕ) (p : Pair) (e : Edge costs.Cost) → priced_move (move sets ms u p) ≡ some e → (c : costs.Cost) → costs.◌≺◌ c (costs.◌⊕◌ e.cost c)
  positive u p e h c = go (move sets ms u p) h
    where
      go : (o : Option Move) → priced_move o ≡ some e → costs.◌≺◌ c (costs.◌⊕◌ e.cost c)
      go none h = absurd (Option·none-ne-some e h)
      go (some m) h = let q : e ≡ record { target = m.target; cost = price.of m.marks 1 } = cc in rw q (price.positive m.marks c)

  abbrev pub product_graph : Graph costs pairs
  product_graph = record { edge = λ u p. priced_move (move sets ms u p); ending = λ u. priced_ending (ending sets ms u); positive = positive }

-- the product of a card's machines over a list of sets, at a price
abbrev pub priced_graph : {costs : Costs} (price : Price costs) (card sets : List ℕ) → Graph costs pairs
priced_graph price card sets = product_graph price sets (machines_of card)

-- under a ranking
abbrev pub set_graph : (card ranking sets : List ℕ) → Graph (ranked_costs (length ranking)) pairs
set_graph card ranking sets = priced_graph (by_ranking ranking) card sets

-- and for a word
abbrev pub card_graph : (card ranking word : List ℕ) → Graph (ranked_costs (length ranking)) pairs
card_graph card ranking word = set_graph card ranking (singletons word)

abbrev pub card_start : List ℕ → ℕ
card_start card = start_node (machines_of card)
