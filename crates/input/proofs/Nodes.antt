-- The room for the nodes, and the sizes of an accepted card. Assumes nothing.
use Rattle.std.specs.Prelude.{◌≡◌, ◌+◌, ◌*◌, ◌≤◌}
use Rattle.basics.specs.Words.{ap, true, List, ℕ, arith, length, mul-le-mul}
use Rattle.card.specs.Layout.{symbol_count}
use Rattle.card.specs.Card.{card_refusal, machines_of}
use Rattle.card.specs.Accepted.{accepted}
use Rattle.product.specs.Nodes.{product, state_counts, node_count}
use Rattle.product.specs.Optimizing.{sound_word}
use Rattle.product.specs.Laws.Accepted.{accepted_machines}
use Rattle.grid.specs.declared.Grid.{Grid}
use Rattle.grid.specs.Grids.{GridOf}
use Rattle.input.specs.Readiness.{FewSizes}
use Rattle.input.specs.AcceptedInput.{short_word}

-- of at most 24 symbols or sets and at most 128 joint states
pub few_nodes : (n P : ℕ) → n ≤ 24 → P ≤ 128 → (n + 1) * P ≤ 3200
few_nodes n P h k = let q : n + 1 ≤ 25 = omega arith in mul-le-mul q k

module _ (card : List ℕ) (ok : card_refusal card ≡ 0) (P : ℕ) (e : P ≡ product (state_counts (machines_of card))) where
  pub room_for : (n : ℕ) → (n + 1) * P * 8 ≡ 8 * node_count (machines_of card) n
  room_for n = let q : (n + 1) * P ≡ node_count (machines_of card) n = ap (λ (p : ℕ). (n + 1) * p) e in omega arith

  pub few_for : (n : ℕ) → n ≤ 24 → (n + 1) * P ≤ 3200
  few_for n h = few_nodes n P h (omega (arith, (accepted_machines card ok).few_states_lem))

-- and so of an accepted word
module _ (card word : List ℕ) (ok : card_refusal card ≡ 0) (P : ℕ) (e : P ≡ product (state_counts (machines_of card))) where
  pub node_room : (length word + 1) * P * 8 ≡ 8 * node_count (machines_of card) (length word)
  node_room = room_for card ok P e (length word)

  pub nodes_few : sound_word (symbol_count card) word ≡ true → (length word + 1) * P ≤ 3200
  nodes_few t = few_for card ok P e (length word) (short_word (symbol_count card) word t)

pub few_sizes : (card : List ℕ) → card_refusal card ≡ 0 → (g : Grid) → GridOf card g → FewSizes g
few_sizes card ok g G = record {
  machines = omega (arith, G.machines, (accepted card ok).head.counts);
  symbols = omega (arith, G.symbols, (accepted card ok).head.counts);
  joint_states = omega (arith, G.size, (accepted_machines card ok).few_states_lem);
}
