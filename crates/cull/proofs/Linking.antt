-- The arcs and the endings that the tests on the counts keep are those of the stage's graph.
use Rattle.std.specs.Prelude.{◌≡◌, ◌∷◌, ◌+◌, ◌<◌}
use Rattle.basics.proofs.Words.{refl, sym, ◌∙◌, ap, subst, true, false, List, [], Option, none, some, map-eq-some_iff, ℕ, zero, suc, arith, ne_eqb}
use Rattle.machine.specs.declared.Pair.{Pair}
use Rattle.paths.specs.Bounds.{Sized}
use Rattle.paths.specs.Ranked.{Ranked, letter_count, count_at, ranked_costs, count_at_add}
use Rattle.paths.specs.Graph.{Edge, Graph, path_cost, Run, run→cost, cost→run}
use Rattle.tables.specs.Marks.{marks_cost}
use Rattle.tables.specs.MarksLaws.{nibbles_letters}
use Rattle.product.specs.ProductGraph.{pairs}
use Rattle.tables.specs.Endings.{without_pairs, ending_cost}
use Rattle.tables.specs.Laws.Edges.{edge_from}
use Rattle.stage.specs.Below.{Below}
use Rattle.cull.specs.Cull.{exact, exact_is, keeps_edge, left, FewestBelow, survivors, way_left}
use Rattle.cull.specs.Left.{left_edge, left_ending}
use Rattle.cull.specs.OneConstraint.{price, priced_edge, seen_run}
use Rattle.cull.specs.Stages.{left_sized, stage, stage_edge, stage_edge_gone, stage_no_edge, stage_ending, stage_ending_gone}
use Rattle.stage.specs.StageLabels.{count_of}
use Rattle.stage.specs.Relaxing.{Makes, counts_of, no_counts, LinkedEntry}

-- ---- an ending has marks and no pair

without_count : (K i : ℕ) (c : Ranked K) → count_at K i (without_pairs K c) ≡ count_at K i c
without_count zero i c = refl
without_count (suc K) zero c = refl
without_count (suc K) (suc i) c = without_count K i c.1

without_letters : (K : ℕ) (c : Ranked K) → letter_count K (without_pairs K c) ≡ 0
without_letters zero c = refl
without_letters (suc K) c = without_letters K c.1

module _ (G : Graph (ranked_costs 6) pairs) (Z : Sized G (letter_count 6)) (fewest : ℕ → ℕ → Option ℕ) (k : ℕ) (F : FewestBelow G (count_at 6) fewest k)
    (xs : List ℕ) (told : (i u m : ℕ) → i < k → fewest i u ≡ some m → count_of xs i u ≡ m) where
  abbrev S : Graph (ranked_costs 1) pairs
  S = stage 6 G Z fewest k

  -- a node with a way has its counts in the slice
  pub has_count : (v : ℕ) (ps : List Pair) (c : Ranked 6) → path_cost G v ps ≡ some c → (i : ℕ) → i < k → fewest i v ≡ some (count_of xs i v)
  has_count v ps c h i l =
      let w = way_left G (count_at 6) fewest (count_at_add 6) i (λ j n. F j (omega arith)) v ps c h in
      let m = (F i l).least v w.0 w.1 w.2 in
      m.is ∙ ap some (sym (told i v m.val l m.is))

  -- a way in what is left is a way
  pub whole_way : (v : ℕ) (ps : List Pair) (d : Ranked 1) → path_cost S v ps ≡ some d → (c : Ranked 6) × (path_cost G v ps ≡ some c)
  whole_way v ps d h =
      let r = seen_run 6 k (left G (count_at 6) fewest k) (left_sized 6 G Z fewest k) (cost→run S v ps d h) in
      (r.0, ((survivors G (count_at 6) fewest (count_at_add 6) k F v ps r.0).0 (run→cost (left G (count_at 6) fewest k) r.1)).0)

  exact_false : (i u v x a b : ℕ) → fewest i u ≡ some a → fewest i v ≡ some b → ¬ (a ≡ x + b) → exact (fewest i u) x (fewest i v) ≡ false
  exact_false i u v x a b p q n = (λ j. exact (p j) x (q j)) ∙ ne_eqb a (x + b) n

  -- an edge of what is left is an edge
  pub whole_edge : (u : ℕ) (p : Pair) (f : Edge (Ranked 1)) → S.edge u p ≡ some f → (g : Edge (Ranked 6)) × (G.edge u p ≡ some g) × (f.target ≡ g.target)
  whole_edge u p f h =
      let g = (map-eq-some_iff (priced_edge 6 k) ((left G (count_at 6) fewest k).edge u p)).0 h in
      (g.0, ((left_edge G (count_at 6) fewest k u p g.0).0 g.1).0, ap (λ (y : Edge (Ranked 1)). y.target) (sym g.2))

  pub whole_ending : (u : ℕ) (c : Ranked 1) → S.ending u ≡ some c → (d : Ranked 6) × (G.ending u ≡ some d)
  whole_ending u c h =
      let g = (map-eq-some_iff (price 6 k) ((left G (count_at 6) fewest k).ending u)).0 h in
      (g.0, ((left_ending G (count_at 6) fewest k u g.0).0 g.1).0)

  -- ---- an arc

  module _ (u : ℕ) (p : Pair) (t : ℕ) (o : Option (ℕ × ℕ)) (is : G.edge u p ≡ edge_from t o) where
    module _ (to m : ℕ) (q : o ≡ some (to, m)) where
      abbrev e : Edge (Ranked 6)
      e = record { target = t + to; cost = marks_cost m }

      arc : G.edge u p ≡ some e
      arc = is ∙ ap (edge_from t) q

      leads : (f : Edge (Ranked 1)) → S.edge u p ≡ some f → f.target ≡ t + to
      leads f h =
          let g = whole_edge u p f h in
          let z : g.0 ≡ e = cc (g.1, arc) in
          g.2 ∙ ap (λ (y : Edge (Ranked 6)). y.target) z

      -- an edge of what is left is the arc, and the counts tell that it was kept
      pub edge_kept : (f : Edge (Ranked 1)) → S.edge u p ≡ some f → (f ≡ record { target = t + to; cost = (count_at 6 k (marks_cost m), 1) }) × Below (Makes xs u m (counts_of xs (t + to))) k
      edge_kept f h =
          let g = (map-eq-some_iff (priced_edge 6 k) ((left G (count_at 6) fewest k).edge u p)).0 h in
          let a = (left_edge G (count_at 6) fewest k u p g.0).0 g.1 in
          let z : g.0 ≡ e = cc (a.0, arc) in (
            sym g.2 ∙ ap (priced_edge 6 k) z ∙ (λ j. record { target = t + to; cost = (count_at 6 k (marks_cost m), nibbles_letters 6 m j) }),
            λ i l.
                let b : keeps_edge (count_at 6 i) (fewest i) u e ≡ true = subst (λ (y : Edge (Ranked 6)). keeps_edge (count_at 6 i) (fewest i) u y ≡ true) z (a.1 i l) in
                let x = (exact_is (fewest i u) (count_at 6 i (marks_cost m)) (fewest i (t + to))).0 b in
                omega (arith, told i u (count_at 6 i (marks_cost m) + x.rest) l x.is, told i (t + to) x.rest l x.rest_is),
          )

      module _ (ps : List Pair) (d : Ranked 1) (w : path_cost S (t + to) ps ≡ some d) where
        there : (i : ℕ) → i < k → fewest i (t + to) ≡ some (count_of xs i (t + to))
        there = let c = whole_way (t + to) ps d w in has_count (t + to) ps c.0 c.1

        here : (i : ℕ) → i < k → fewest i u ≡ some (count_of xs i u)
        here = let c = whole_way (t + to) ps d w in has_count u (p ∷ ps) _ (run→cost G (Run.step e c.0 arc (cost→run G (t + to) ps c.0 c.1) refl))

        pub kept : Below (Makes xs u m (counts_of xs (t + to))) k → S.edge u p ≡ some (record { target = t + to; cost = (count_at 6 k (marks_cost m), 1) })
        kept f =
            stage_edge 6 G Z fewest k u p e arc (λ i l. (exact_is (fewest i u) (count_at 6 i (marks_cost m)) (fewest i (t + to))).1 (record { rest = count_of xs i (t + to); rest_is = there i l; is = here i l ∙ ap some (f i l) }))
            ∙ (λ j. some (record { target = t + to; cost = (count_at 6 k (marks_cost m), nibbles_letters 6 m j) }))

        dropped : (i : ℕ) → i < k → ¬ (Makes xs u m (counts_of xs (t + to)) i) → S.edge u p ≡ none
        dropped i l n = stage_edge_gone 6 G Z fewest k u p e arc i l (exact_false i u (t + to) (count_at 6 i (marks_cost m)) (count_of xs i u) (count_of xs i (t + to)) (here i l) (there i l) n)

    pub linked_entry : LinkedEntry S xs k u p t o
    linked_entry = record {
      gone = λ q. stage_no_edge 6 G Z fewest k u p (is ∙ ap (edge_from t) q);
      leads = leads;
      kept = kept;
      dropped = dropped;
    }

  -- ---- an ending

  module _ (u m : ℕ) (is : G.ending u ≡ some (ending_cost m)) where
    ends : (i : ℕ) → i < k → fewest i u ≡ some (count_of xs i u)
    ends = has_count u [] (ending_cost m) (run→cost G (Run.halt is))

    pub ending_kept : Below (Makes xs u m no_counts) k → S.ending u ≡ some (count_at 6 k (marks_cost m), 0)
    ending_kept f =
        stage_ending 6 G Z fewest k u (ending_cost m) is (λ i l. (exact_is (fewest i u) (count_at 6 i (ending_cost m)) (some 0)).1 (record { rest = 0; rest_is = refl; is = ends i l ∙ ap some (f i l ∙ ap (λ (n : ℕ). n + 0) (sym (without_count 6 i (marks_cost m)))) }))
        ∙ (λ j. some (without_count 6 k (marks_cost m) j, without_letters 6 (marks_cost m) j))

    pub ending_dropped : (i : ℕ) → i < k → ¬ (Makes xs u m no_counts i) → S.ending u ≡ none
    ending_dropped i l n =
        stage_ending_gone 6 G Z fewest k u (ending_cost m) is i l
        ((λ j. exact (ends i l j) (count_at 6 i (ending_cost m)) (some 0)) ∙ ne_eqb (count_of xs i u) (count_at 6 i (ending_cost m) + 0) (λ z. n (z ∙ ap (λ (n : ℕ). n + 0) (without_count 6 i (marks_cost m)))))
