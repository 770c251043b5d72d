-- Attained labels are small: they are costs of paths that pass no node twice.
use Rattle.std.specs.Prelude.{◌≡◌, ◌+◌, ◌*◌, ◌<◌, ◌≤◌}
use Rattle.basics.specs.Words.{true, List, some, ℕ, arith, length, mul-le-mul_right}
use Rattle.card.specs.Layout.{machine_count}
use Rattle.card.specs.Card.{machines_of}
use Rattle.card.specs.Accepted.{accepted}
use Rattle.paths.specs.Costs.{Labels}
use Rattle.paths.specs.Ranked.{Ranked, ranked_costs}
use Rattle.paths.specs.Graph.{Within}
use Rattle.paths.specs.Labels.{Attained}
use Rattle.paths.specs.Bounds.{attained_size, attained_count_size}
use Rattle.product.specs.Setting.{Setting}
use Rattle.product.specs.Laws.Edges.{product_within}
use Rattle.product.specs.Laws.Setting.{machines_sound, few_nodes}
use Rattle.product.specs.Weights.{sound_weights}
use Rattle.product.specs.WeightedPaths.{by_weights, weighted_graph}
use Rattle.product.specs.WeightedGraph.{weighted_sized, weighted_sums}
use Rattle.product.specs.Laws.SoundWeights.{weighs}

-- fewer than 3,200 pairs, and a sum of at most six times 48,000 times 4,000,000,000
pub record SmallLabel (c : Ranked 1) : Type 0 where
  pub pairs : c.1 < 3200
  pub sum : c.0 ≤ 1152000000000000

at_most : (s n K : ℕ) → n < 3200 → K ≤ 6 → s ≤ 4000000000 * 15 * K * n + 4000000000 * 15 * K → s ≤ 1152000000000000
at_most s n K h k e =
    let a : 60000000000 * K ≤ 360000000000 = omega arith in
    let b : 60000000000 * K * n ≤ 360000000000 * n = mul-le-mul_right n a in
    omega arith

module _ {card sets : List ℕ} {P : ℕ} (s : Setting card sets P) (weights : List ℕ) (sound : sound_weights (machine_count card) weights ≡ true) {L : Labels (ranked_costs 1)} (A : Attained (weighted_graph card weights sets) L) where
  within : Within (weighted_graph card weights sets) ((length sets + 1) * P)
  within = rw s.states (product_within (by_weights weights) sets (machines_of card) (machines_sound s))

  pub label_small : (u : ℕ) → u < (length sets + 1) * P → (c : Ranked 1) → L u ≡ some c → SmallLabel c
  label_small u h c l =
      let few = attained_size (weighted_graph card weights sets) within A u c h l (weighted_sized card weights sets s.accepted) in
      let v = weighs (machine_count card) weights sound in
      let most = attained_count_size (weighted_graph card weights sets) within A u c h l (weighted_sized card weights sets s.accepted) (weighted_sums card weights sets s.accepted 4000000000 v.most) in
      record { pairs = omega (arith, few, few_nodes s); sum = at_most c.0 c.1 (length weights) (omega (arith, few, few_nodes s)) (omega (arith, v.count, (accepted card s.accepted).head.counts.machines)) most }
