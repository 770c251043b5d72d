-- Attained labels of two numbers leave room for 128 pairs more.
use Rattle.std.specs.Prelude.{◌≡◌, ◌+◌, ◌*◌, ◌/◌, ◌^◌, ◌≤◌, ◌<◌}
use Rattle.basics.specs.Words.{refl, List, some, ℕ, zero, suc, arith, length, get_or, replicate, length-replicate, mul-le-mul_left}
use Rattle.machine.specs.declared.Pair.{Pair}
use Rattle.card.specs.Card.{machines_of}
use Rattle.paths.specs.Costs.{Labels}
use Rattle.paths.specs.Ranked.{Ranked, ranked_costs}
use Rattle.paths.specs.Graph.{Within, cost→run}
use Rattle.paths.specs.Labels.{Attained}
use Rattle.paths.specs.Bounds.{BoundedCount, run_count, attained_short}
use Rattle.product.specs.Nodes.{state_counts, states_at}
use Rattle.product.specs.ProductGraph.{Move, move, ending}
use Rattle.product.specs.Setting.{Setting}
use Rattle.product.specs.Laws.Edges.{moved, edge_of, word_ended, ending_of_lem, step_marks_bound, ending_marks_bound, product_within}
use Rattle.product.specs.Laws.Setting.{machines_sound, few_nodes}
use Rattle.tables.specs.Places.{six_places}
use Rattle.tables.specs.Laws.Cards.{card_machines}
use Rattle.settling.specs.Prices.{most_price, ranked_highs, ranked_lows}
use Rattle.cells.specs.Cells.{high_of, low_of}
use Rattle.cells.specs.Columns.{weighed, WeightsOf}
use Rattle.cells.specs.Trying.{cell_price}
use Rattle.cells.specs.Laws.Weighed.{weighed_whole}
use Rattle.insertions.specs.RankedWeights.{RankedWeights}
use Rattle.insertions.specs.Laws.Ranked.{ranked_high, ranked_low}
use Rattle.entering.specs.Entering.{cell_graph, most_of}
use Rattle.entering.specs.Laws.Most.{weighed_most}
use Rattle.labelling.specs.Laws.Packed.{move_length, ending_length}

-- a label with 128 pairs more: its high number, whose last byte is 255, is below `top`, and its low one leaves room; the marks of a pair add at
-- most these to either
pub record LabelRoom (highs lows top : ℕ) (c : Ranked 1) : Type 0 where
  pub high : c.0 * 256 + 255 + 128 * highs < top
  pub low : c.1 + 128 * (lows + 1) + 2 ^ 56 ≤ 2 ^ 64

-- a path of fewer than 3,200 pairs
path_most : (a k c last N : ℕ) → k < N → N ≤ 3200 → c ≤ a * k + last → c ≤ 3199 * a + last
path_most a k c last N h n e = let m : a * k ≤ a * 3199 = mul-le-mul_left a (omega arith) in omega arith

module _ {card sets : List ℕ} {P : ℕ} (s : Setting card sets P) {ws : List ℕ} (W : WeightsOf (state_counts (machines_of card)) ws) (K : ℕ) (few : length (machines_of card) ≤ K) where
  cell_within : Within (cell_graph ws card sets) ((length sets + 1) * P)
  cell_within = rw s.states (product_within (cell_price ws) sets (machines_of card) (machines_sound s))

  move_most : (w : ℕ → ℕ) (u : ℕ) (p : Pair) (m : Move) → move sets (machines_of card) u p ≡ some m → weighed w 0 m.marks ≤ most_of w K
  move_most w u p m h =
      let k = moved sets (machines_of card) u p m h in
      weighed_most w m.marks K
      (rw k.marks_are (step_marks_bound (machines_sound s) (states_at (state_counts (machines_of card)) u) p k.steps k.steps_are))
      (omega (arith, few, move_length sets (machines_of card) u p m h))

  ending_most : (w : ℕ → ℕ) (u : ℕ) (xs : List ℕ) → ending sets (machines_of card) u ≡ some xs → weighed w 0 xs ≤ most_of w K
  ending_most w u xs h =
      weighed_most w xs K
      (ending_marks_bound (machines_sound s) (states_at (state_counts (machines_of card)) u) xs (word_ended sets (machines_of card) u xs h).ends)
      (omega (arith, few, ending_length sets (machines_of card) u xs h))

  highs_bounded : BoundedCount (cell_graph ws card sets) (λ c. c.0) (most_of (λ m. high_of ws m / 256) K) (most_of (λ m. high_of ws m / 256) K)
  highs_bounded = record {
    at_end = λ u c h. let k = ending_of_lem (cell_price ws) sets (machines_of card) u c h in rw k.cost_is (ending_most (λ m. high_of ws m / 256) u k.marks k.is);
    at_edge = λ u p e h c. let k = edge_of (cell_price ws) sets (machines_of card) u p e h in rw k.cost_is (omega (arith, move_most (λ m. high_of ws m / 256) u p k.by k.is));
  }

  lows_bounded : BoundedCount (cell_graph ws card sets) (λ c. c.1) (most_of (low_of ws) K + 1) (most_of (low_of ws) K)
  lows_bounded = record {
    at_end = λ u c h. let k = ending_of_lem (cell_price ws) sets (machines_of card) u c h in rw k.cost_is (omega (arith, ending_most (low_of ws) u k.marks k.is));
    at_edge = λ u p e h c. let k = edge_of (cell_price ws) sets (machines_of card) u p e h in rw k.cost_is (omega (arith, move_most (low_of ws) u p k.by k.is));
  }

  -- an attained label is the cost of a path that passes no node twice
  pub label_room : (highs lows top : ℕ) → most_of (high_of ws) K ≤ highs → most_of (low_of ws) K ≤ lows → highs * 3328 + 255 < top → (lows + 1) * 3328 + 2 ^ 56 ≤ 2 ^ 64
      → {M : Labels (ranked_costs 1)} → Attained (cell_graph ws card sets) M → (u : ℕ) (c : Ranked 1) → u < (length sets + 1) * P → M u ≡ some c → LabelRoom highs lows top c
  label_room highs lows top a b x y A u c h l =
      let p = attained_short (cell_graph ws card sets) cell_within A u c h l in
      let r = cost→run (cell_graph ws card sets) u p.letters c p.is in
      let q = most_of (λ m. high_of ws m / 256) K in
      let t = most_of (low_of ws) K in
      let w : most_of (high_of ws) K ≡ 256 * q = weighed_whole (high_of ws) W.whole 0 (replicate K 15) in
      let d : c.0 ≤ 3199 * q + q = path_most q (length p.letters) c.0 q ((length sets + 1) * P) p.fewer (few_nodes s) (run_count (cell_graph ws card sets) highs_bounded r) in
      let e : c.1 ≤ 3199 * (t + 1) + t = path_most (t + 1) (length p.letters) c.1 t ((length sets + 1) * P) p.fewer (few_nodes s) (run_count (cell_graph ws card sets) lows_bounded r) in
      record { high = omega arith; low = omega arith }

-- ---- in ranked order

fifteen_most : (K i : ℕ) → get_or (replicate K 15) i 0 ≤ 15
fifteen_most zero i = omega arith
fifteen_most (suc K) zero = omega arith
fifteen_most (suc K) (suc i) = fifteen_most K i

module _ (ranking : List ℕ) {ws : List ℕ} (R : RankedWeights (six_places ranking) ws) (K : ℕ) (six : K ≤ 6) where
  few_marks : length {A = ℕ} (replicate K 15) ≤ 6
  few_marks = omega (arith, length-replicate {A = ℕ} K 15)

  at_most : (i : ℕ) → get_or (replicate K 15) (get_or ranking i 6) 0 ≤ 15
  at_most i = fifteen_most K (get_or ranking i 6)

  pub ranked_most_high : most_of (high_of ws) K ≤ most_price ranked_highs
  unfolding most_price
  ranked_most_high = omega (arith, ranked_high R refl (replicate K 15) few_marks, at_most 0, at_most 1, at_most 2)

  pub ranked_most_low : most_of (low_of ws) K ≤ most_price ranked_lows
  unfolding most_price
  ranked_most_low = omega (arith, ranked_low R refl (replicate K 15) few_marks, at_most 3, at_most 4, at_most 5)

module _ {card sets : List ℕ} {P : ℕ} (s : Setting card sets P) (ranking : List ℕ) {ws : List ℕ} (W : WeightsOf (state_counts (machines_of card)) ws) (R : RankedWeights (six_places ranking) ws) where
  pub ranked_room : {M : Labels (ranked_costs 1)} → Attained (cell_graph ws card sets) M → (u : ℕ) (c : Ranked 1) → u < (length sets + 1) * P → M u ≡ some c
      → LabelRoom (most_price ranked_highs) (most_price ranked_lows) (2 ^ 56) c
  unfolding most_price
  ranked_room =
      label_room s W 6 (card_machines card s.accepted).machines (most_price ranked_highs) (most_price ranked_lows) (2 ^ 56) (ranked_most_high ranking R 6 (omega arith)) (ranked_most_low ranking R 6 (omega arith))
      (omega arith) (omega arith)
