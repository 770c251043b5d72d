-- The graph of an accepted card, as the theory of paths and an engine ask for it.
use Rattle.std.specs.Prelude.{◌≡◌, ◌<◌, ◌≤◌}
use Rattle.basics.specs.Words.{true, List, some, ℕ, arith, length}
use Rattle.machine.specs.declared.Pair.{Pair}
use Rattle.machine.specs.Symbols.{within_symbols}
use Rattle.card.specs.Layout.{symbol_count}
use Rattle.card.specs.Card.{machines_of, card_refusal}
use Rattle.product.specs.Sets.{singletons}
use Rattle.paths.specs.Costs.{Costs}
use Rattle.paths.specs.Graph.{Edge, Within}
use Rattle.product.specs.Nodes.{state_counts, node_count}
use Rattle.product.specs.Prices.{Price}
use Rattle.product.specs.ProductGraph.{priced_graph, card_start}
use Rattle.product.specs.Laws.Sets.{as_many}
use Rattle.product.specs.Laws.Nodes.{node_below}
use Rattle.product.specs.Laws.JointStep.{starts_below}
use Rattle.product.specs.Laws.Candidates.{starts}
use Rattle.product.specs.Laws.Edges.{edge_of, product_within, move_symbols}
use Rattle.product.specs.Laws.Accepted.{accepted_machines}

pub some_machine : (card : List ℕ) → card_refusal card ≡ 0 → 1 ≤ length (machines_of card)
some_machine card ok = let a = accepted_machines card ok in omega (arith, a.count, a.some_machine)

module _ (card sets : List ℕ) (ok : card_refusal card ≡ 0) where
  -- the start node is one of its (n + 1) × P nodes
  pub start_within : card_start card < node_count (machines_of card) (length sets)
  start_within = node_below (state_counts (machines_of card)) 0 (starts (machines_of card)) (starts_below (accepted_machines card ok).sound) (length sets) (omega arith)

  -- at any price: edges lead to its nodes, at the same position or at the next one, by pairs of the card's symbols
  module _ {costs : Costs} (price : Price costs) where
    pub priced_within : Within (priced_graph price card sets) (node_count (machines_of card) (length sets))
    priced_within = product_within price sets (machines_of card) (accepted_machines card ok).sound

    pub priced_symbols : (u : ℕ) (p : Pair) (e : Edge costs.Cost) → (priced_graph price card sets).edge u p ≡ some e → within_symbols (symbol_count card) p ≡ true
    priced_symbols u p e h =
        let k = edge_of price sets (machines_of card) u p e h in
        move_symbols (accepted_machines card ok).sound (some_machine card ok) sets u p k.by k.is

-- a word has as many symbols as it has sets
pub word_within : (card word : List ℕ) → card_refusal card ≡ 0 → {costs : Costs} (price : Price costs) → Within (priced_graph price card (singletons word)) (node_count (machines_of card) (length word))
word_within card word ok price = rw (as_many word) at (priced_within card (singletons word) ok price)
