-- Labels of six ranked counts that are done are labels of two numbers that are done.
use Rattle.std.specs.Prelude.{◌≡◌, ◌∷◌}
use Rattle.basics.specs.Words.{refl, sym, ◌∙◌, ap, subst, List, Option, none, some, Option·none-ne-some, inl, inr, ℕ, arith}
use Rattle.card.specs.Card.{machines_of}
use Rattle.paths.specs.Total.{Upto}
use Rattle.paths.specs.Costs.{Costs, Labels, AtMost}
use Rattle.paths.specs.Ranked.{Ranked, add, Less, ranked_costs}
use Rattle.paths.specs.Pigeonhole.{Distinct}
use Rattle.paths.specs.Graph.{Alphabet, Edge, Graph, nodes, Run}
use Rattle.paths.specs.Labels.{ClosedAt, Held, Attained, held→run}
use Rattle.paths.specs.Positions.{Done}
use Rattle.product.specs.Nodes.{state_counts}
use Rattle.product.specs.ProductGraph.{pairs}
use Rattle.product.specs.Setting.{position_of, Setting}
use Rattle.tables.specs.LabelCost.{AllShort}
use Rattle.tables.specs.Work.{label_of}
use Rattle.tables.specs.Engine.{engine_graph}
use Rattle.tables.specs.Places.{six_places}
use Rattle.settling.specs.Packing.{Packing, packed_edge, packed_path, Packs}
use Rattle.cells.specs.Columns.{WeightsOf}
use Rattle.insertions.specs.RankedWeights.{RankedWeights}
use Rattle.entering.specs.Entering.{cell_graph}
use Rattle.closing.specs.CountsPacking.{counts_packing}
use Rattle.labelling.specs.Laws.Packed.{ranked_packs}
use Rattle.labelling.specs.Laws.Ranked.{distinct_cost_short, ending_short, step_short}

-- ---- packing

module _ {costs : Costs} (K : Packing costs) where
  open costs use {Cost}

  -- what was packed
  unpacked_cost : (o : Option Cost) (x : Ranked 1) → packed_path K o ≡ some x → (c : Cost) × (o ≡ some c) × (K.path c ≡ x)
  unpacked_cost none x h = absurd (Option·none-ne-some x h)
  unpacked_cost (some c) x h = let q : K.path c ≡ x = cc (h) in (c, refl, q)

  unpacked_edge : (o : Option (Edge Cost)) (x : Edge (Ranked 1)) → packed_edge K o ≡ some x → (e : Edge Cost) × (o ≡ some e) × (◌≡◌ {A = Edge (Ranked 1)} (record { target = e.target; cost = K.edge e.cost }) x)
  unpacked_edge none x h = absurd (Option·none-ne-some x h)
  unpacked_edge (some e) x h = let q : ◌≡◌ {A = Edge (Ranked 1)} (record { target = e.target; cost = K.edge e.cost }) x = cc (h) in (e, refl, q)

  module _ {alphabet : Alphabet} (G : Graph costs alphabet) (H : Graph (ranked_costs 1) alphabet) (X : Packs K G H) where
    open alphabet use {Letter}

    -- a path costs, packed, what its numbers cost, and it passes the same nodes
    pub packed_run : {u : ℕ} {ps : List Letter} {c : Cost} → Run G u ps c → Run H u ps (K.path c)
    packed_run (Run.halt {u} h) = Run.halt (X.endings u ∙ ap (packed_path K) h)
    packed_run (Run.step {u} {p} e d h r q) =
        Run.step (record { target = e.target; cost = K.edge e.cost }) (K.path d) (X.edges u p ∙ ap (packed_edge K) h) (packed_run r) (ap K.path q ∙ K.sum e.cost d)

    packed_nodes : {u : ℕ} {ps : List Letter} {c : Cost} → Run G u ps c → nodes G u ps ≡ nodes H u ps
    unfolding nodes
    packed_nodes (Run.halt h) = refl
    packed_nodes (Run.step {u} {p} e d h r q) = rw (X.edges u p, h) (ap (λ (l : List ℕ). u ∷ l) (packed_nodes r))

    -- labels that are short
    module _ (L : Labels costs) (short : (u : ℕ) (c : Cost) → L u ≡ some c → K.Short c) where
      packed_most : (u : ℕ) (c : Cost) → K.Short c → AtMost costs.◌≺◌ (L u) c → AtMost (Less 1) (packed_path K (L u)) (K.path c)
      packed_most u c s m = record { val = K.path m.val; is = ap (packed_path K) m.is; upto = go m.upto }
        where
          go : Upto costs.◌≺◌ m.val c → Upto (Less 1) (K.path m.val) (K.path c)
          go (inl h) = inl (K.less m.val c (short u m.val m.is) s h)
          go (inr e) = inr (ap K.path e)

      packed_held : {u : ℕ} {ps : List Letter} {c : Cost} → K.Short c → Held G L u ps c → Held H (λ u. packed_path K (L u)) u ps (K.path c)
      packed_held s (Held.halt {u} {c} h m) = Held.halt (X.endings u ∙ ap (packed_path K) h) (packed_most u c s m)
      packed_held s (Held.step {u} {p} {c = c} e d h r q m) =
          Held.step (record { target = e.target; cost = K.edge e.cost }) (K.path d) (X.edges u p ∙ ap (packed_edge K) h)
          (packed_held (K.rest e.cost d (subst (λ (x : Cost). K.Short x) q s)) r) (ap K.path q ∙ K.sum e.cost d) (packed_most u c s m)

      pub packed_attained : Attained G L → Attained H (λ u. packed_path K (L u))
      packed_attained A u x l =
          let k = unpacked_cost (L u) x l in
          let a = A u k.0 k.1 in
          record {
            letters = a.letters;
            held = subst (λ (x : Ranked 1). Held H (λ u. packed_path K (L u)) u a.letters x) k.2 (packed_held (short u k.0 k.1) a.held);
            distinct = subst (λ (l : List ℕ). Distinct l) (packed_nodes (held→run G a.held)) a.distinct;
          }

      -- where one edge more is still short
      pub packed_closed : (u : ℕ) → ((c : Cost) → G.ending u ≡ some c → K.Short c) → ((p : Letter) (e : Edge Cost) (d : Cost) → G.edge u p ≡ some e → L e.target ≡ some d → K.Short (costs.◌⊕◌ e.cost d)) → ClosedAt G L u → ClosedAt H (λ u. packed_path K (L u)) u
      packed_closed u f g C = record { ends = ends; edges = edges }
        where
          ends : (x : Ranked 1) → H.ending u ≡ some x → AtMost (Less 1) (packed_path K (L u)) x
          ends x h =
              let c = unpacked_cost (G.ending u) x (sym (X.endings u) ∙ h) in
              subst (λ (y : Ranked 1). AtMost (Less 1) (packed_path K (L u)) y) c.2 (packed_most u c.0 (f c.0 c.1) (C.ends c.0 c.1))

          edges : (p : Letter) (b : Edge (Ranked 1)) (y : Ranked 1) → H.edge u p ≡ some b → packed_path K (L b.target) ≡ some y → AtMost (Less 1) (packed_path K (L u)) (add 1 b.cost y)
          edges p b y h l =
              let e = unpacked_edge (G.edge u p) b (sym (X.edges u p) ∙ h) in
              let t : e.0.target ≡ b.target = ap (λ (b : Edge (Ranked 1)). b.target) e.2 in
              let d = unpacked_cost (L e.0.target) y (ap (λ (v : ℕ). packed_path K (L v)) t ∙ l) in
              let q : K.path (costs.◌⊕◌ e.0.cost d.0) ≡ add 1 b.cost y = K.sum e.0.cost d.0 ∙ (λ i. add 1 (e.2 i).cost (d.2 i)) in
              subst (λ (y : Ranked 1). AtMost (Less 1) (packed_path K (L u)) y) q
              (packed_most u (costs.◌⊕◌ e.0.cost d.0) (g p e.0 d.0 e.1 d.1) (C.edges p e.0 d.0 e.1 d.1))

-- ---- ranked labels

-- as two numbers
abbrev pub number_labels : List ℕ → Labels (ranked_costs 1)
number_labels xs u = packed_path counts_packing (label_of xs u)

module _ {card sets : List ℕ} {P : ℕ} (s : Setting card sets P) (ranking : List ℕ) (xs : List ℕ) (D : Done (engine_graph (machines_of card) ranking sets) (position_of card) (label_of xs) 0) where
  -- a label is the cost of a path that passes no node twice
  pub labels_short : (u : ℕ) (c : Ranked 6) → label_of xs u ≡ some c → AllShort 6 c
  labels_short u c l =
      let a = D.attained u c l in
      distinct_cost_short s ranking u a.letters c (held→run (engine_graph (machines_of card) ranking sets) a.held) a.distinct

  pub numbers_done : {ws : List ℕ} → WeightsOf (state_counts (machines_of card)) ws → RankedWeights (six_places ranking) ws → Done (cell_graph ws card sets) (position_of card) (number_labels xs) 0
  unfolding counts_packing
  numbers_done {ws} W R = record {
    attained = packed_attained counts_packing G H X (label_of xs) labels_short D.attained;
    closed = λ u h. packed_closed counts_packing G H X (label_of xs) labels_short u (ending_short s ranking u) (λ p e d k l. step_short s ranking D.attained u p e d k l) (D.closed u (omega arith));
    blank = λ u h. absurd (omega arith);
  }
    where
      G : Graph (ranked_costs 6) pairs
      G = engine_graph (machines_of card) ranking sets

      H : Graph (ranked_costs 1) pairs
      H = cell_graph ws card sets

      X : Packs counts_packing G H
      X = ranked_packs ranking R W.whole card sets s.accepted
