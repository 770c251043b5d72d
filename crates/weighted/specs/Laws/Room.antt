-- Attained labels by weights leave room for 128 pairs more, and have fewer than 4,096 pairs.
use Rattle.std.specs.Prelude.{◌≡◌, ◌+◌, ◌*◌, ◌^◌, ◌<◌, ◌≤◌}
use Rattle.basics.specs.Words.{List, some, ℕ, zero, suc, arith, length, get_or, replicate, length-replicate, mul-le-mul_left}
use Rattle.card.specs.Card.{machines_of}
use Rattle.paths.specs.Costs.{Labels}
use Rattle.paths.specs.Ranked.{Ranked, ranked_costs}
use Rattle.paths.specs.Labels.{Attained}
use Rattle.paths.specs.Bounds.{attained_size}
use Rattle.product.specs.Nodes.{state_counts}
use Rattle.product.specs.Setting.{Setting}
use Rattle.product.specs.Laws.Edges.{product_within}
use Rattle.product.specs.Laws.Setting.{machines_sound, few_nodes}
use Rattle.tables.specs.Laws.Cards.{card_machines}
use Rattle.settling.specs.Prices.{most_price, no_lows}
use Rattle.cells.specs.Cells.{high_of, low_of}
use Rattle.cells.specs.Columns.{WeightsOf}
use Rattle.entering.specs.Entering.{cell_graph, most_of}
use Rattle.machine_weights.specs.Highs.{six_highs}
use Rattle.labelling.specs.Laws.LabelRoom.{LabelRoom, label_room}
use Rattle.product.specs.WeightedPaths.{by_weights, weighted_graph}
use Rattle.product.specs.WeightedGraph.{weighted_sized}
use Rattle.weighted.specs.WeighsBy.{WeighsBy}
use Rattle.weighted.specs.Laws.Sound.{Sound}
use Rattle.weighted.specs.Laws.Weighing.{low_sum}
use Rattle.weighted.specs.Laws.Prices.{six_terms, high_most, low_most}
use Rattle.weighted.specs.Laws.Done.{weighted_attained}

fifteen_most : (K i : ℕ) → get_or (replicate K 15) i 0 ≤ 15
fifteen_most zero i = omega arith
fifteen_most (suc K) zero = omega arith
fifteen_most (suc K) (suc i) = fifteen_most K i

module _ {weights ws : List ℕ} (W : WeighsBy weights ws) (K : ℕ) (six : K ≤ 6) where
  pub weighted_most_high : most_of (high_of ws) K ≤ most_price (six_highs ws)
  unfolding most_price
  weighted_most_high =
      let n : length {A = ℕ} (replicate K 15) ≡ K = length-replicate {A = ℕ} K 15 in
      let t = six_terms (high_of ws) (replicate K 15) (omega arith) in
      omega (arith, t, part 0, part 1, part 2, part 3, part 4, part 5)
    where
      part : (m : ℕ) → high_of ws m * get_or (replicate K 15) m 0 ≤ high_of ws m * 15
      part m = mul-le-mul_left (high_of ws m) (fifteen_most K m)

  pub weighted_most_low : most_of (low_of ws) K ≤ most_price no_lows
  weighted_most_low = omega (arith, low_sum W (replicate K 15))

module _ {card sets : List ℕ} {P : ℕ} (s : Setting card sets P) {n : ℕ} {weights ws : List ℕ} (A : Sound n weights) (Z : WeightsOf (state_counts (machines_of card)) ws) (W : WeighsBy weights ws)
    {M : Labels (ranked_costs 1)} (T : Attained (cell_graph ws card sets) M) (u : ℕ) (c : Ranked 1) (h : u < (length sets + 1) * P) (l : M u ≡ some c) where
  pub weighted_room : LabelRoom (most_price (six_highs ws)) (most_price no_lows) (2 ^ 59) c
  weighted_room =
      label_room s Z 6 (card_machines card s.accepted).machines (most_price (six_highs ws)) (most_price no_lows) (2 ^ 59) (weighted_most_high W 6 (omega arith)) (weighted_most_low W 6 (omega arith))
      (omega (arith, high_most A W)) (omega (arith, low_most)) T u c h l

  pub few_pairs : c.1 < 4096
  few_pairs =
      let G = weighted_graph card weights sets in
      omega (arith, attained_size G (rw s.states (product_within (by_weights weights) sets (machines_of card) (machines_sound s))) (weighted_attained W card sets T) u c h l (weighted_sized card weights sets s.accepted), few_nodes s)
