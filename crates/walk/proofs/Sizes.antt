-- The pairs of a label are told by the last 16 bits of its low number. Assumes nothing.
use Rattle.std.specs.Prelude.{◌≡◌, ◌∷◌, ◌+◌, ◌*◌, ◌/◌, ◌%◌, ◌<◌}
use Rattle.basics.specs.Words.{refl, ◌∙◌, ap, List, [], some, ℕ, suc, arith, length, mul_left_comm}
use Rattle.machine.specs.declared.Pair.{Pair}
use Rattle.card.specs.Card.{machines_of}
use Rattle.paths.specs.Costs.{Labels}
use Rattle.paths.specs.Ranked.{Ranked, ranked_costs}
use Rattle.paths.specs.Graph.{Within, Run, cost→run}
use Rattle.paths.specs.Bounds.{attained_short}
use Rattle.paths.specs.Walk.{SizedLabels}
use Rattle.product.specs.Laws.Edges.{edge_of, ending_of_lem, product_within}
use Rattle.product.specs.Laws.Setting.{machines_sound, few_nodes}
use Rattle.cells.specs.Cells.{low_of}
use Rattle.cells.specs.Columns.{weighed}
use Rattle.cells.specs.Trying.{cell_price}
use Rattle.entering.specs.Entering.{cell_graph}
use Rattle.walk.specs.WalkLabels.{pair_count, Labelled}

whole_pairs : (w : ℕ → ℕ) → ((n : ℕ) → w n % 65536 ≡ 0) → (m : ℕ) (xs : List ℕ) → weighed w m xs ≡ 65536 * weighed (λ n. w n / 65536) m xs
unfolding weighed
whole_pairs w h m [] = refl
whole_pairs w h m (k ∷ ks) =
    let a : w m ≡ 65536 * (w m / 65536) = omega (arith, h m) in
    let b : k * w m ≡ 65536 * (k * (w m / 65536)) = ap (λ (n : ℕ). k * n) a ∙ mul_left_comm k 65536 (w m / 65536) in
    omega (arith, b, whole_pairs w h (suc m) ks)

module _ {card ws sets : List ℕ} {P : ℕ} {L : Labels (ranked_costs 1)} (K : Labelled card ws sets P L) where
  -- a path's low number
  record PairsOf (ps : List Pair) (c : Ranked 1) : Type 0 where
    marks : ℕ
    low : c.1 ≡ 65536 * marks + length ps

  run_pairs : {u : ℕ} {ps : List Pair} {c : Ranked 1} → Run (cell_graph ws card sets) u ps c → PairsOf ps c
  run_pairs (Run.halt {u} {c} h) =
      let k = ending_of_lem (cell_price ws) sets (machines_of card) u c h in
      record { marks = weighed (λ n. low_of ws n / 65536) 0 k.marks; low = omega (arith, ap (λ (r : Ranked 1). r.1) k.cost_is, whole_pairs (low_of ws) K.pairs 0 k.marks) }
  run_pairs (Run.step {u} {p} e d h r q) =
      let k = edge_of (cell_price ws) sets (machines_of card) u p e h in
      let n = run_pairs r in
      record {
        marks = weighed (λ n. low_of ws n / 65536) 0 k.by.marks + n.marks;
        low = omega (arith, ap (λ (r : Ranked 1). r.1) q, ap (λ (r : Ranked 1). r.1) k.cost_is, whole_pairs (low_of ws) K.pairs 0 k.by.marks, n.low);
      }

  cell_within : Within (cell_graph ws card sets) ((length sets + 1) * P)
  cell_within = rw K.setting.states (product_within (cell_price ws) sets (machines_of card) (machines_sound K.setting))

  -- fewer than 3,200 are left
  pub pairs_few : (u : ℕ) (c : Ranked 1) → u < (length sets + 1) * P → L u ≡ some c → pair_count c < 3200
  pairs_few u c h l =
      let s = attained_short (cell_graph ws card sets) cell_within K.attained u c h l in
      omega (arith, s.fewer, few_nodes K.setting, (run_pairs (cost→run (cell_graph ws card sets) u s.letters c s.is)).low)

  pub pairs_sized : SizedLabels (cell_graph ws card sets) L pair_count
  pairs_sized = record {
    at_end = λ u c h l. let k = ending_of_lem (cell_price ws) sets (machines_of card) u c h in omega (arith, ap (λ (r : Ranked 1). r.1) k.cost_is, whole_pairs (low_of ws) K.pairs 0 k.marks);
    at_edge = λ u p t.
        let k = edge_of (cell_price ws) sets (machines_of card) u p t.to t.edge_is in
        let n = pairs_few t.to.target t.rest (cell_within u p t.to t.edge_is) t.rest_is in
        omega (arith, n, ap (λ (r : Ranked 1). r.1) k.cost_is, whole_pairs (low_of ws) K.pairs 0 k.by.marks);
  }
