-- What the checks find out. Assumes nothing.
use Rattle.std.specs.Prelude.{◌≡◌, ◌≢◌, ◌+◌, ◌*◌, ◌<◌, ◌≤◌}
use Rattle.basics.proofs.Words.{sym, ◌∙◌, ap, true, false, List, ℕ, arith, length, get_or, drop, leb, all_of, eq-eqb, ne_eqb, le-leb, lt-leb, left_next, left_none, all_none, all_next, all_fails}
use Rattle.card.specs.Layout.{symbol_count}
use Rattle.card.specs.Card.{machines_of}
use Rattle.product.specs.Nodes.{node_count}
use Rattle.grid.specs.declared.Grid.{Grid}
use Rattle.grid.specs.Grids.{GridOf}
use Rattle.input.specs.AcceptedInput.{short_word}
use Rattle.input.proofs.Nodes.{few_nodes, few_sizes}
use Rattle.product.specs.Weights.{sound_weights}
use Rattle.weights.specs.Accepting.{Accepts}

-- ---- weights

module _ (K : ℕ) (weights : List ℕ) where
  pub other_count : length weights ≢ K → sound_weights K weights ≡ false
  unfolding sound_weights
  other_count n = rw (ne_eqb (length weights) K n)

  module _ (n : length weights ≡ K) where
    pub by_weights_lem : sound_weights K weights ≡ all_of (λ w. leb w 4000000000) weights
    unfolding sound_weights
    by_weights_lem = rw (eq-eqb (length weights) K n)

    pub one_above : (i : ℕ) → i < length weights → 4000000000 < get_or weights i 0 → all_of (λ w. leb w 4000000000) (drop i weights) ≡ all_of (λ w. leb w 4000000000) weights → sound_weights K weights ≡ false
    one_above i h k e = by_weights_lem ∙ sym e ∙ all_fails (λ w. leb w 4000000000) (left_next weights i h) (lt-leb (get_or weights i 0) 4000000000 k)

    pub none_above : (i : ℕ) → length weights ≤ i → all_of (λ w. leb w 4000000000) (drop i weights) ≡ all_of (λ w. leb w 4000000000) weights → sound_weights K weights ≡ true
    none_above i h e = by_weights_lem ∙ sym e ∙ all_none (λ w. leb w 4000000000) (left_none weights i h)

pub one_passes : (weights : List ℕ) (i : ℕ) → i < length weights → get_or weights i 0 ≤ 4000000000 → all_of (λ w. leb w 4000000000) (drop i weights) ≡ all_of (λ w. leb w 4000000000) weights
    → all_of (λ w. leb w 4000000000) (drop (i + 1) weights) ≡ all_of (λ w. leb w 4000000000) weights
one_passes weights i h k e = all_next (λ w. leb w 4000000000) (left_next weights i h) (le-leb (get_or weights i 0) 4000000000 k) ∙ e

-- ---- the nodes of accepted input, by the card's sizes

module _ {card weights word : List ℕ} {room : ℕ} (a : Accepts card weights word room) (g : Grid) (G : GridOf card g) where
  pub nodes_few : (length word + 1) * g.size ≤ 3200
  nodes_few = few_nodes (length word) g.size (short_word (symbol_count card) word a.sound) (few_sizes card a.accepted g G).joint_states

  pub nodes_fit : (length word + 1) * g.size ≤ room
  nodes_fit = let q : (length word + 1) * g.size ≡ node_count (machines_of card) (length word) = ap (λ (p : ℕ). (length word + 1) * p) G.size in omega (arith, a.nodes_fit)
