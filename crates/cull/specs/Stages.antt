-- The cull of a ranked graph, as an engine does it: constraint by constraint it labels what is left by the marks of that constraint, and then
-- the number of letters; and it walks along the labels of the last.
use Rattle.std.specs.Prelude.{◌≡◌, ◌<◌}
use Rattle.basics.specs.Words.{ap, true, false, Option, none, some, Option·map, ℕ, suc}
use Rattle.paths.specs.Costs.{Labels}
use Rattle.paths.specs.Ranked.{Ranked, letter_count, count_at, ranked_costs}
use Rattle.paths.specs.Graph.{Alphabet, Edge, Graph, Within}
use Rattle.paths.specs.Bounds.{Sized, BoundedCount}
use Rattle.stage.specs.Below.{Below, below_none, below_next}
use Rattle.cull.specs.Cull.{keeps_edge, keeps_ending, Fewest, left, FewestBelow}
use Rattle.cull.specs.Subgraph.{sub_within, sub_sized, sub_count}
use Rattle.cull.specs.Left.{left_edge, left_ending, edge_gone, ending_gone, no_edge_left, no_ending_left, left_alike_edges, left_sub}
use Rattle.cull.specs.OneConstraint.{price, priced_edge, stage_marks, by_constraint, LeastPrices, least_fewest, seen_within, seen_sized, seen_count}

-- ---- from stage to stage

module _ (K : ℕ) {alphabet : Alphabet} (G : Graph (ranked_costs K) alphabet) (fewest : ℕ → ℕ → Option ℕ) where
  pub cull_start : FewestBelow G (count_at K) fewest 0
  cull_start = below_none (λ i. Fewest (left G (count_at K) fewest i) (count_at K i) (fewest i))

  -- `fewest k` has the marks of the labels of the stage k, which are the least in what the stages before left
  pub cull_next : {k : ℕ} {L : Labels (ranked_costs 1)} → LeastPrices K k (left G (count_at K) fewest k) L → ((u : ℕ) → fewest k u ≡ stage_marks (L u))
      → FewestBelow G (count_at K) fewest k → FewestBelow G (count_at K) fewest (suc k)
  cull_next {k} M told F =
      below_next (λ i. Fewest (left G (count_at K) fewest i) (count_at K i) (fewest i)) k F (least_fewest K k (left G (count_at K) fewest k) M (fewest k) told)

-- ---- the graph of a stage

module _ (K : ℕ) {alphabet : Alphabet} (G : Graph (ranked_costs K) alphabet) (Z : Sized G (letter_count K)) (fewest : ℕ → ℕ → Option ℕ) where
  open alphabet use {Letter}

  pub left_sized : (k : ℕ) → Sized (left G (count_at K) fewest k) (letter_count K)
  left_sized k = sub_sized (left_sub G (count_at K) fewest k) Z

  -- what the stage of the constraint k labels: what the stages before it left, by the marks of k and the number of letters
  abbrev pub stage : ℕ → Graph (ranked_costs 1) alphabet
  stage k = by_constraint K k (left G (count_at K) fewest k) (left_sized k)

  module _ (k : ℕ) where
    abbrev H : Graph (ranked_costs K) alphabet
    H = left G (count_at K) fewest k

    -- ---- the edges and the endings of a stage: those of G that each stage before keeps

    pub stage_edge : (u : ℕ) (p : Letter) (e : Edge (Ranked K)) → G.edge u p ≡ some e → Below (λ i. keeps_edge (count_at K i) (fewest i) u e ≡ true) k → (stage k).edge u p ≡ some (priced_edge K k e)
    stage_edge u p e h a = ap (Option·map (priced_edge K k)) ((left_edge G (count_at K) fewest k u p e).1 (h, a))

    pub stage_edge_gone : (u : ℕ) (p : Letter) (e : Edge (Ranked K)) → G.edge u p ≡ some e → (i : ℕ) → i < k → keeps_edge (count_at K i) (fewest i) u e ≡ false → (stage k).edge u p ≡ none
    stage_edge_gone u p e h i l d = ap (Option·map (priced_edge K k)) (edge_gone G (count_at K) fewest k u p e h i l d)

    pub stage_no_edge : (u : ℕ) (p : Letter) → G.edge u p ≡ none → (stage k).edge u p ≡ none
    stage_no_edge u p h = ap (Option·map (priced_edge K k)) (no_edge_left G (count_at K) fewest k u p h)

    pub stage_alike_edges : (u : ℕ) (p q : Letter) → G.edge u p ≡ G.edge u q → (stage k).edge u p ≡ (stage k).edge u q
    stage_alike_edges u p q h = ap (Option·map (priced_edge K k)) (left_alike_edges G (count_at K) fewest k u p q h)

    pub stage_ending : (u : ℕ) (c : Ranked K) → G.ending u ≡ some c → Below (λ i. keeps_ending (count_at K i) (fewest i) u c ≡ true) k → (stage k).ending u ≡ some (price K k c)
    stage_ending u c h a = ap (Option·map (price K k)) ((left_ending G (count_at K) fewest k u c).1 (h, a))

    pub stage_ending_gone : (u : ℕ) (c : Ranked K) → G.ending u ≡ some c → (i : ℕ) → i < k → keeps_ending (count_at K i) (fewest i) u c ≡ false → (stage k).ending u ≡ none
    stage_ending_gone u c h i l d = ap (Option·map (price K k)) (ending_gone G (count_at K) fewest k u c h i l d)

    pub stage_no_ending : (u : ℕ) → G.ending u ≡ none → (stage k).ending u ≡ none
    stage_no_ending u h = ap (Option·map (price K k)) (no_ending_left G (count_at K) fewest k u h)

    -- ---- what the labelling of a stage needs

    pub stage_within : {N : ℕ} → Within G N → Within (stage k) N
    stage_within W = seen_within K k H (left_sized k) (sub_within (left_sub G (count_at K) fewest k) W)

    pub stage_sized : Sized (stage k) (letter_count 1)
    stage_sized = seen_sized K k H (left_sized k)

    pub stage_count : {most last : ℕ} → BoundedCount G (count_at K k) most last → BoundedCount (stage k) (count_at 1 0) most last
    stage_count B = seen_count K k H (left_sized k) (sub_count (left_sub G (count_at K) fewest k) B)
