-- Labels of two numbers that are done are labels of six ranked counts that are done.
use Rattle.std.specs.Prelude.{◌≡◌, ◌⊎◌, ◌≢◌, ◌+◌, ◌*◌, ◌≤◌, ◌<◌}
use Rattle.basics.specs.Words.{refl, true, List, some, inl, inr, ℕ, zero, suc, arith, length, get_or, member}
use Rattle.machine.specs.declared.Pair.{Pair}
use Rattle.machine.specs.Symbols.{empty_symbol}
use Rattle.card.specs.Card.{machines_of}
use Rattle.paths.specs.Costs.{Costs, Labels}
use Rattle.paths.specs.Ranked.{Ranked, add, letter_count, count_at, ranked_costs}
use Rattle.paths.specs.Graph.{Edge, Graph, nodes, Within, Run, run→cost}
use Rattle.paths.specs.Pigeonhole.{Distinct}
use Rattle.paths.specs.Labels.{Attained}
use Rattle.paths.specs.Bounds.{Sized, BoundedCount, run_size, run_count, distinct_short, attained_size, attained_count_size}
use Rattle.paths.specs.Positions.{Done}
use Rattle.product.specs.Nodes.{state_counts}
use Rattle.product.specs.Prices.{by_ranking}
use Rattle.product.specs.ProductGraph.{pairs}
use Rattle.product.specs.Setting.{position_of, Setting}
use Rattle.product.specs.Laws.Edges.{product_within, product_sized, product_counts}
use Rattle.product.specs.Laws.Letters.{LetterAt, OverSets, priced_over}
use Rattle.product.specs.Laws.Setting.{machines_sound, few_nodes, node_below, node_high}
use Rattle.tables.specs.LabelCost.{AllShort}
use Rattle.tables.specs.Work.{label_of}
use Rattle.tables.specs.Engine.{engine_graph}
use Rattle.tables.specs.Places.{six_places}
use Rattle.settling.specs.Packing.{packed_path}
use Rattle.settling.proofs.Packing.{unpacked_attained, unpacked_closed}
use Rattle.cells.specs.Columns.{WeightsOf}
use Rattle.insertions.specs.RankedWeights.{RankedWeights}
use Rattle.entering.specs.Entering.{cell_graph}
use Rattle.closing.specs.CountsPacking.{counts_packing}
use Rattle.labelling.specs.Laws.Packed.{ranked_packs}

-- ---- a path begins at one of the (n + 1) * P nodes

module _ {card sets : List ℕ} {P : ℕ} (s : Setting card sets P) {costs : Costs} {G : Graph costs pairs} (O : OverSets G card sets) where
  node_within : (u i : ℕ) → position_of card u ≡ i → i ≤ length sets → u < (length sets + 1) * P
  node_within u i e h = node_below s i u h (node_high s u i e)

  pub ending_within : (u : ℕ) (c : costs.Cost) → G.ending u ≡ some c → u < (length sets + 1) * P
  ending_within u c h = node_within u (length sets) (O.ends u c h) (omega arith)

  pub edge_within : (u : ℕ) (p : Pair) (e : Edge costs.Cost) → G.edge u p ≡ some e → u < (length sets + 1) * P
  edge_within u p e h = node_within u (position_of card u) refl (go (O.letters u p e h) (O.letters u p e h).pair.input_there)
    where
      go : {i v : ℕ} → LetterAt card sets i p v → (p.input ≡ empty_symbol) ⊎ ((p.input ≢ empty_symbol) × (member (get_or sets i 0) p.input ≡ true)) → i ≤ length sets
      go l (inl z) = (l.stays z).0
      go l (inr n) = omega (arith, l.leaves n.0)

  pub run_within : {u : ℕ} {ps : List Pair} {c : costs.Cost} → Run G u ps c → u < (length sets + 1) * P
  run_within (Run.halt {u} {c} h) = ending_within u c h
  run_within (Run.step {u} {p} e d h r q) = edge_within u p e h

-- ---- short costs

pub all_short : (k : ℕ) (c : Ranked k) → ((i : ℕ) → count_at k i c < 65536) → letter_count k c < 65536 → AllShort k c
all_short zero c f l = l
all_short (suc k) c f l = (f zero, all_short k c.1 (λ i. f (suc i)) l)

module _ {card sets : List ℕ} {P : ℕ} (s : Setting card sets P) (ranking : List ℕ) where
  engine_within : Within (engine_graph (machines_of card) ranking sets) ((length sets + 1) * P)
  engine_within = rw s.states (product_within (by_ranking (six_places ranking)) sets (machines_of card) (machines_sound s))

  engine_sized : Sized (engine_graph (machines_of card) ranking sets) (letter_count 6)
  engine_sized = product_sized (six_places ranking) sets (machines_of card)

  engine_counts : (i : ℕ) → BoundedCount (engine_graph (machines_of card) ranking sets) (count_at 6 i) 15 15
  engine_counts i = product_counts (six_places ranking) sets (machines_of card) (machines_sound s) i

  -- the cost of a path that passes no node twice: fewer than 3,200 pairs
  pub distinct_cost_short : (u : ℕ) (ps : List Pair) (c : Ranked 6) → Run (engine_graph (machines_of card) ranking sets) u ps c → Distinct (nodes (engine_graph (machines_of card) ranking sets) u ps) → AllShort 6 c
  distinct_cost_short u ps c r k =
      let G = engine_graph (machines_of card) ranking sets in
      let b = run_within s (priced_over (by_ranking (six_places ranking)) card sets s.accepted) r in
      let n = distinct_short G engine_within u ps c b (run→cost G r) k in
      all_short 6 c (λ i. omega (arith, run_count G (engine_counts i) r, few_nodes s)) (omega (arith, run_size G engine_sized r, few_nodes s))

  -- an ending
  pub ending_short : (u : ℕ) (c : Ranked 6) → (engine_graph (machines_of card) ranking sets).ending u ≡ some c → AllShort 6 c
  ending_short u c h = all_short 6 c (λ i. omega (arith, (engine_counts i).at_end u c h)) (omega (arith, engine_sized.at_end u c h))

  -- an edge to an attained label
  pub step_short : {L : Labels (ranked_costs 6)} → Attained (engine_graph (machines_of card) ranking sets) L
      → (u : ℕ) (p : Pair) (e : Edge (Ranked 6)) (d : Ranked 6) → (engine_graph (machines_of card) ranking sets).edge u p ≡ some e → L e.target ≡ some d → AllShort 6 (add 6 e.cost d)
  step_short A u p e d h l =
      let G = engine_graph (machines_of card) ranking sets in
      let b = engine_within u p e h in
      let n = attained_size G engine_within A e.target d b l engine_sized in
      all_short 6 (add 6 e.cost d)
      (λ i. omega (arith, attained_count_size G engine_within A e.target d b l engine_sized (engine_counts i), (engine_counts i).at_edge u p e h d, n, few_nodes s))
      (omega (arith, engine_sized.at_edge u p e h d, n, few_nodes s))

  -- ---- labels done by two numbers are done by six counts
  pub ranked_done : {ws : List ℕ} → WeightsOf (state_counts (machines_of card)) ws → RankedWeights (six_places ranking) ws → {M : Labels (ranked_costs 1)} (xs : List ℕ)
      → Done (cell_graph ws card sets) (position_of card) M 0 → ((u : ℕ) → M u ≡ packed_path counts_packing (label_of xs u)) → ((u : ℕ) (c : Ranked 6) → label_of xs u ≡ some c → AllShort 6 c)
      → Done (engine_graph (machines_of card) ranking sets) (position_of card) (label_of xs) 0
  unfolding counts_packing
  ranked_done {ws} W R {M} xs D same short = record {
    attained = attained;
    closed = λ u h.
        unpacked_closed counts_packing G H (ranked_packs ranking R W.whole card sets s.accepted) (label_of xs) M same short u (ending_short u) (λ p e d k l. step_short attained u p e d k l) (D.closed u (omega arith));
    blank = λ u h. absurd (omega arith);
  }
    where
      G : Graph (ranked_costs 6) pairs
      G = engine_graph (machines_of card) ranking sets

      H : Graph (ranked_costs 1) pairs
      H = cell_graph ws card sets

      attained : Attained G (label_of xs)
      attained =
          unpacked_attained counts_packing G H (ranked_packs ranking R W.whole card sets s.accepted) (label_of xs) M same short (λ u ps c d l r k. distinct_cost_short u ps c r k) D.attained
