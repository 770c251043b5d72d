-- A position in a stage: its symbol's arcs are tried, its insertions until nothing changes, and it is done.
use Rattle.std.specs.Prelude.{◌≡◌, ◌&&◌, ◌⊎◌, ◌≢◌, ◌+◌, ◌-◌, ◌*◌, ◌≤◌, ◌<◌}
use Rattle.basics.proofs.Words.{refl, sym, ◌∙◌, ap, subst, subst₂, Bool, true, false, not, List, Option, none, some, Option·none-ne-some, inl, inr, ℕ, zero, suc, arith, length, get_or, eqb, mul-le-mul_right, suc-mul, ℕ_discrete, dec_lt, member, eqb-true, ne_eqb, clash}
use Rattle.machine.specs.declared.Pair.{Pair}
use Rattle.card.specs.Card.{machines_of}
use Rattle.paths.specs.Costs.{Labels, AtMost}
use Rattle.paths.specs.Ranked.{Ranked, add, Less, letter_count, count_at, ranked_costs}
use Rattle.paths.specs.RankedGraph.{ranked_counts}
use Rattle.paths.specs.Graph.{Edge, Graph, Within, path_cost}
use Rattle.paths.specs.Labels.{Attained}
use Rattle.paths.specs.Bounds.{attained_size, attained_count_size}
use Rattle.paths.specs.Settling.{Settling}
use Rattle.paths.specs.Positions.{Done, Entering, Entered, position_done}
use Rattle.tables.specs.Marks.{marks_cost}
use Rattle.product.specs.ProductGraph.{pairs, Move}
use Rattle.product.specs.Codes.{code_step}
use Rattle.tables.specs.Places.{six_places, mark_number}
use Rattle.tables.specs.JointNumbers.{numbered, joint_from}
use Rattle.machine.specs.Laws.SetLoops.{with_true}
use Rattle.product.specs.Laws.Entering.{NotLeft}
use Rattle.machine.specs.Symbols.{empty_symbol, is_pair}
use Rattle.product.specs.Setting.{position_of, Setting}
use Rattle.product.specs.Laws.Setting.{machines_sound, symbols_few, few_codes, few_nodes, node_low, node_high, node_inside}
use Rattle.product.specs.Laws.Letters.{LetterAt, OverSets, letter_at, over_positioned, part_over}
use Rattle.product.specs.Laws.Edges.{edge_counts, ending_counts}
use Rattle.tables.specs.Engine.{engine_graph}
use Rattle.tables.specs.Laws.Edges.{edge_from, insertion_edge_lem}
use Rattle.columns.specs.Prepared.{NoSteps, Covered}
use Rattle.settling.specs.Insertions.{code_in, is_listed}
use Rattle.cull.proofs.Edges.{over, within, symbol_at}
use Rattle.stage.specs.Below.{Below}
use Rattle.cull.specs.Stages.{stage_alike_edges, stage_within, stage_sized, stage_count}
use Rattle.stage.specs.StageLabels.{count_of, stage_label}
use Rattle.stage_entering.specs.Relaxation.{Relaxes}
use Rattle.stage.specs.Relaxing.{Makes, counts_of, Fits}
use Rattle.stage_entering.specs.Tables.{ListsOf}
use Rattle.stage_entering.specs.Entering.{NodesPre}
use Rattle.stage_entering.specs.Inputs.{InOrder, SymbolLinked, Among, InputTried}
use Rattle.stage_settling.specs.Settling.{Kept, way_by, marks_of, from_of, ArcsOf, SettlePre, SettledBy}
use Rattle.cull.specs.Culling.{pairs_counted, stage_graph, Culled}
use Rattle.cull.proofs.Linking.{linked_entry, kept as kept-edge, edge_kept, whole_edge, whole_ending}

pub culled_kept : {card ranking sets : List ℕ} {fewest : ℕ → ℕ → Option ℕ} {xs ys : List ℕ} {k : ℕ} → ((i w : ℕ) → i < k → count_of ys i w ≡ count_of xs i w) → Culled card ranking sets fewest xs k → Culled card ranking sets fewest ys k
culled_kept C K = record { below = K.below; told = λ i u m h e. C i u h ∙ K.told i u m h e }

module _ {card sets : List ℕ} {P : ℕ} (s : Setting card sets P) where
  -- ---- the nodes of a position are there

  pub position_there : (i : ℕ) → i ≤ length sets → i * P + P ≤ (length sets + 1) * P
  position_there i h = let m : suc i * P ≤ (length sets + 1) * P = mul-le-mul_right P (omega arith) in omega (arith, suc-mul i P)

  outside : (i w : ℕ) → position_of card w ≢ i → (w < i * P) ⊎ (i * P + P ≤ w)
  outside i w n = go (dec_lt w (i * P)) (dec_lt w (i * P + P))
    where
      go : Dec (w < i * P) → Dec (w < i * P + P) → (w < i * P) ⊎ (i * P + P ≤ w)
      go (yes h) _ = inl h
      go (no h) (no l) = inr (omega arith)
      go (no h) (yes l) = absurd (n (node_inside s w i (omega arith) l))

  module _ (ranking : List ℕ) (fewest : ℕ → ℕ → Option ℕ) (k : ℕ) where
    abbrev G : Graph (ranked_costs 6) pairs
    G = engine_graph (machines_of card) ranking sets

    abbrev S : Graph (ranked_costs 1) pairs
    S = stage_graph card ranking sets fewest k

    -- its edges have the letters of the sets
    pub stage_over : {xs : List ℕ} → Culled card ranking sets fewest xs k → OverSets S card sets
    stage_over {xs} C =
        part_over (over s ranking)
        (λ u p e h. let g = whole_edge G (pairs_counted card ranking sets) fewest k C.below xs C.told u p e h in (g.0, g.1, sym g.2))
        (λ u c h. whole_ending G (pairs_counted card ranking sets) fewest k C.below xs C.told u c h)

    stage_inside : Within S ((length sets + 1) * P)
    stage_inside = stage_within 6 G (pairs_counted card ranking sets) fewest k (within s ranking)

    -- a pair more fits
    pub stage_fits : (L : Labels (ranked_costs 1)) → Attained S L → (v : ℕ) (d : Ranked 1) → v < (length sets + 1) * P → L v ≡ some d → Fits d
    stage_fits L A v d h l = (omega (arith, a, b, few_nodes s), omega (arith, a, few_nodes s))
      where
        a : letter_count 1 d < (length sets + 1) * P
        a = attained_size S stage_inside A v d h l (stage_sized 6 G (pairs_counted card ranking sets) fewest k)

        b : count_at 1 0 d ≤ 15 * letter_count 1 d + 15
        b = attained_count_size S stage_inside A v d h l (stage_sized 6 G (pairs_counted card ranking sets) fewest k)
            (stage_count 6 G (pairs_counted card ranking sets) fewest k (ranked_counts 6 G k 15 15 (λ u p e z. edge_counts (six_places ranking) sets (machines_of card) (machines_sound s) u p e z k) (λ u c z. ending_counts (six_places ranking) sets (machines_of card) (machines_sound s) u c z k)))

    insertion_at_lem : (i z y : ℕ) → i ≤ length sets → z < P → 0 < y → G.edge (i * P + z) (record { input = 0; output = y }) ≡ edge_from (i * P) (joint_from (six_places ranking) (machines_of card) z (record { input = 0; output = y }))
    insertion_at_lem i z y h l n = rw s.states (insertion_edge_lem ranking sets (machines_sound s) i z (omega (arith, s.states)) (record { input = 0; output = y }) h (rw (ne_eqb y 0 (omega arith))) refl)

    module _ (few : k < 6) {xs : List ℕ} (room : length xs ≡ (length sets + 1) * P * 8) (C : Culled card ranking sets fewest xs k) (i : ℕ) where
      -- ---- the joint steps of a symbol are edges

      next_is : (i + 1) * P ≡ i * P + P
      next_is = let a : (i + 1) * P ≡ suc i * P = ap (λ (n : ℕ). n * P) (omega arith) in omega (arith, a, suc-mul i P)

      symbol_edge : (x z y : ℕ) → member (get_or sets i 0) x ≡ true → z < P → G.edge (i * P + z) (record { input = x; output = y }) ≡ edge_from (i * P + P) (joint_from (six_places ranking) (machines_of card) z (record { input = x; output = y }))
      symbol_edge x z y m a = symbol_at s ranking i x z y m a ∙ ap (λ (t : ℕ). edge_from t (joint_from (six_places ranking) (machines_of card) z (record { input = x; output = y }))) next_is

      symbol_linked : (x : ℕ) → member (get_or sets i 0) x ≡ true → SymbolLinked S xs card ranking k x (i * P) (i * P + P) P
      symbol_linked x m = record {
        entry = λ c y a. linked_entry G (pairs_counted card ranking sets) fewest k C.below xs C.told (i * P + c) (record { input = x; output = y }) (i * P + P) (joint_from (six_places ranking) (machines_of card) c (record { input = x; output = y })) (symbol_edge x c y m a);
        alike = λ c y n a q. stage_alike_edges 6 G (pairs_counted card ranking sets) fewest k (i * P + c) (record { input = x; output = y }) (record { input = x; output = n }) (symbol_edge x c y m a ∙ ap (edge_from (i * P + P)) q ∙ sym (symbol_edge x c n m a));
      }

      pub symbol_nodes : i < length sets → Attained S (stage_label xs k) → NodesPre xs (i * P) P k
      symbol_nodes h A =
          let t = position_there (i + 1) (omega arith) in
          let n = next_is in
          record {
            nodes = omega (arith, room, t, n);
            few = omega (arith, t, n, few_nodes s);
            stage = few;
            fits = λ v d a b e. stage_fits (stage_label xs k) A v d (omega (arith, b, t, n)) e;
          }

      -- ---- the insertions in lists are edges

      module _ {entries ends : List ℕ} (here : i ≤ length sets) (N : ListsOf card ranking entries ends) where
        insertion_arcs : ArcsOf S xs entries ends k (i * P)
        insertion_arcs = record { edge = λ v at l ps d w f. edge v at l ps d w f }
          where
            edge : (v at : ℕ) → is_listed ends v at ≡ true → (ps : List Pair) (d : Ranked 1) → path_cost S (i * P + v) ps ≡ some d → Kept xs k (from_of entries (i * P) at) (i * P + v) (marks_of entries at)
                → (p : Pair) × (S.edge (from_of entries (i * P) at) p ≡ some (record { target = i * P + v; cost = (count_at 6 k (marks_cost (marks_of entries at)), 1) }))
            edge v at l ps d w f =
                let e = N.listed.entry v at l in
                let y = e.output in
                let n : 0 < y = positive y e.is_kept_lem in
                let z = code_in (get_or entries at 0) in
                let q : joint_from (six_places ranking) (machines_of card) z (record { input = 0; output = y }) ≡ some (v, marks_of entries at) = ap (numbered (six_places ranking)) e.is ∙ (λ j. some (e.target_is j, sym e.marks_are j)) in
                (record { input = 0; output = y }, kept-edge G (pairs_counted card ranking sets) fewest k C.below xs C.told (i * P + z) (record { input = 0; output = y }) (i * P) (joint_from (six_places ranking) (machines_of card) z (record { input = 0; output = y })) (insertion_at_lem i z y here (omega (arith, N.listed.from v at l, s.states)) n) v (marks_of entries at) q ps d w f)
              where
                positive : (y : ℕ) → member N.kept y ≡ true → 0 < y
                positive zero t = absurd (clash t (N.prepared.no_pair refl))
                positive (suc y) t = omega arith

        pub insertion_ready : Attained S (stage_label xs k) → SettlePre xs entries ends k (i * P) P
        insertion_ready A = record {
          graph = S;
          arcs = insertion_arcs;
          attained = A;
          fits = λ L B v d l n e. stage_fits L B v d (omega (arith, n, position_there i here)) e;
          nodes = omega (arith, room, position_there i here);
          few_nodes = omega (arith, position_there i here, few_nodes s);
          few = few_codes s;
          stage = few;
          within = N.listed.within;
          to = λ v at l. omega (arith, N.listed.to v at l, s.states);
          from = λ v at l. omega (arith, N.listed.from v at l, s.states);
        }

      -- ---- the arcs of a symbol were tried

      pub symbol_entering : {ys ws : List ℕ} {K : Labels (ranked_costs 1)} (left after x : ℕ) → member (get_or sets i 0) x ≡ true → InOrder ranking ws
          → ((n : ℕ) → member after n ≡ (member left n && not (eqb n x)))
          → InputTried card ws xs ys x (i * P) P k
          → Entering S (position_of card) K (stage_label xs k) i (λ _. ⊥) (NotLeft left) → Entering S (position_of card) K (stage_label ys k) i (λ _. ⊥) (NotLeft after)
      symbol_entering {ys} {K = K} left after x m O f R E = record {
        attained = T.attained;
        others = λ w n. others w n ∙ E.others w n;
        falls = λ w c n. T.falls w c (E.falls w c n);
        ends = λ u c a z e. absurd z;
        leaving = λ u p e c a b z h l. leaving u p e c a b z h (sym (others e.target b) ∙ l) (eqb p.input x) refl;
      }
        where
          T : Relaxes S (stage_label xs k) (stage_label ys k) (Among x (i * P) P)
          T = R.relaxes ranking O S (symbol_linked x m) E.attained

          others : (w : ℕ) → position_of card w ≢ i → stage_label ys k w ≡ stage_label xs k w
          others w n = R.others w (outside i w n)

          leaving : (u : ℕ) (p : Pair) (e : Edge (Ranked 1)) (c : Ranked 1) → position_of card u ≡ i → position_of card e.target ≢ i → member after p.input ≡ false → S.edge u p ≡ some e → stage_label xs k e.target ≡ some c
              → (b : Bool) → eqb p.input x ≡ b → AtMost (Less 1) (stage_label ys k u) (add 1 e.cost c)
          leaving u p e c a b z h l true q =
              let o = (letter_at (stage_over C) u p e i a h).pair.output_there in
              T.tried u p e c (eqb-true p.input x q, node_low s u i a, node_high s u i a, omega (arith, o, symbols_few s)) h l
          leaving u p e c a b z h l false q =
              let n : member left p.input ≡ false = sym (f p.input ∙ ap (λ (t : Bool). member left p.input && not t) q ∙ with_true (member left p.input)) ∙ z in
              T.falls u (add 1 e.cost c) (E.leaving u p e c a b n h l)

      -- ---- no insertion gives less: the position is done

      module _ {ys entries ends : List ℕ} (here : i ≤ length sets) (N : ListsOf card ranking entries ends) (D : SettledBy xs ys entries ends k (i * P) P) where
        -- the edge of an insertion: from a code, with an output
        module _ (z y : ℕ) (h : z < P) (n : 0 < y) (small : y < 64) (f : Edge (Ranked 1)) (d : Ranked 1) (e : S.edge (i * P + z) (record { input = 0; output = y }) ≡ some f) (l : stage_label ys k f.target ≡ some d) where
          -- by a joint step
          stepped : (w : Move) → code_step (machines_of card) z (record { input = 0; output = y }) ≡ some w → Covered (machines_of card) 0 N.kept y → AtMost (Less 1) (stage_label ys k (i * P + z)) (add 1 f.cost d)
          stepped w q c = go (ℕ_discrete w.target z)
            where
              m : ℕ
              m = mark_number (six_places ranking) w.marks

              its : (f ≡ record { target = i * P + w.target; cost = (count_at 6 k (marks_cost m), 1) }) × Below (Makes xs (i * P + z) m (counts_of xs (i * P + w.target))) k
              its = edge_kept G (pairs_counted card ranking sets) fewest k C.below xs C.told (i * P + z) (record { input = 0; output = y }) (i * P) (joint_from (six_places ranking) (machines_of card) z (record { input = 0; output = y })) (insertion_at_lem i z y here h n) w.target m (ap (numbered (six_places ranking)) q) f e

              target_is : f.target ≡ i * P + w.target
              target_is = ap (λ (g : Edge (Ranked 1)). g.target) its.0

              go : Dec (w.target ≡ z) → AtMost (Less 1) (stage_label ys k (i * P + z)) (add 1 f.cost d)
              go (yes t) = record { val = d; is = ap (stage_label ys k) (omega (arith, target_is, t)) ∙ l; upto = inl (S.positive (i * P + z) (record { input = 0; output = y }) f e d) }
              go (no t) =
                  let p = N.listed.all z c.other w (omega (arith, h, s.states)) c.is_kept_lem (c.same z (omega (arith, h, s.states)) ∙ q) t in
                  let keeps : Kept ys k (i * P + z) (i * P + w.target) m = (λ j g. omega (arith, its.1 j g, D.counts j (i * P + z) g, D.counts j (i * P + w.target) g)) in
                  let u : from_of entries (i * P) p.at ≡ i * P + z = ap (λ (a : ℕ). i * P + a) p.from_is in
                  let r : AtMost (Less 1) (stage_label ys k (from_of entries (i * P) p.at)) (way_by k (marks_of entries p.at) d) = D.closed w.target p.at p.listed d (ap (stage_label ys k) (sym target_is) ∙ l) (subst₂ (λ (a b : ℕ). Kept ys k a (i * P + w.target) b) (sym u) (sym p.marks_are) keeps) in
                  let r' : AtMost (Less 1) (stage_label ys k (i * P + z)) (way_by k m d) = subst₂ (λ (a b : ℕ). AtMost (Less 1) (stage_label ys k a) (way_by k b d)) u p.marks_are r in
                  subst (λ (g : Edge (Ranked 1)). AtMost (Less 1) (stage_label ys k (i * P + z)) (add 1 g.cost d)) (sym its.0) r'

          no_edge : code_step (machines_of card) z (record { input = 0; output = y }) ≡ none → ⊥
          no_edge q =
              let g = whole_edge G (pairs_counted card ranking sets) fewest k C.below xs C.told (i * P + z) (record { input = 0; output = y }) f e in
              Option·none-ne-some g.0 (sym (insertion_at_lem i z y here h n ∙ ap (λ (o : Option Move). edge_from (i * P) (numbered (six_places ranking) o)) q) ∙ g.1)

          pub insertion_closed : AtMost (Less 1) (stage_label ys k (i * P + z)) (add 1 f.cost d)
          insertion_closed = go (N.prepared.covers y small) (code_step (machines_of card) z (record { input = 0; output = y })) refl
            where
              go : (◌≡◌ {A = ℕ} 0 0 × (y ≡ 0)) ⊎ (NoSteps (machines_of card) 0 y ⊎ Covered (machines_of card) 0 N.kept y) → (o : Option Move) → code_step (machines_of card) z (record { input = 0; output = y }) ≡ o → AtMost (Less 1) (stage_label ys k (i * P + z)) (add 1 f.cost d)
              go c none q = absurd (no_edge q)
              go (inl c) (some w) q = absurd (omega (arith, n, c.1))
              go (inr (inl c)) (some w) q = absurd (no_edge (c z))
              go (inr (inr c)) (some w) q = stepped w q c

        pub position_settled : Entered S (position_of card) (stage_label xs k) i → Done S (position_of card) (stage_label ys k) i
        position_settled E = position_done S (position_of card) (over_positioned (stage_over C)) (λ u. yes tt) E settling (λ w a n. absurd (n tt))
          where
            some_output : (p : Pair) → is_pair p ≡ true → p.input ≡ 0 → 0 < p.output
            some_output p t z = no p.output refl
              where
                no : (y : ℕ) → p.output ≡ y → 0 < p.output
                no zero q = let w : is_pair p ≡ false = rw (z, q) in absurd (clash t w)
                no (suc y) q = omega arith

            by : (u : ℕ) (p : Pair) (f : Edge (Ranked 1)) (d : Ranked 1) → position_of card u ≡ i → position_of card f.target ≡ i → LetterAt card sets i p f.target → (p.input ≡ empty_symbol) ⊎ ((p.input ≢ empty_symbol) × (member (get_or sets i 0) p.input ≡ true))
                → S.edge u p ≡ some f → stage_label ys k f.target ≡ some d → AtMost (Less 1) (stage_label ys k u) (add 1 f.cost d)
            by u p f d a b t (inr x) h l = absurd (omega (arith, b, (t.leaves x.0).1))
            by u p f d a b t (inl x) h l =
                let z = u - i * P in
                let q : i * P + z ≡ u = omega (arith, node_low s u i a) in
                let r : ◌≡◌ {A = Pair} p (record { input = 0; output = p.output }) = (λ j. record { input = x j; output = p.output }) in
                let e : S.edge (i * P + z) (record { input = 0; output = p.output }) ≡ some f = (λ j. S.edge (q j) (sym r j)) ∙ h in
                subst (λ (w : ℕ). AtMost (Less 1) (stage_label ys k w) (add 1 f.cost d)) q
                (insertion_closed z p.output (omega (arith, node_high s u i a, node_low s u i a)) (some_output p t.pair.is_pair_lem x) (omega (arith, t.pair.output_there, symbols_few s)) f d e l)

            settling : Settling S (position_of card) i (stage_label xs k) (stage_label ys k) (λ _. Unit {0})
            settling = record {
              attained = D.attained S (insertion_arcs here N) E.attained;
              others = λ w n. D.others w (outside i w n);
              falls = D.falls;
              ahead = λ u w c a b x n l. absurd (n tt);
              relaxed = λ u p f d a b x z l. let t = letter_at (stage_over C) u p f i a z in by u p f d a b t t.pair.input_there z l;
            }
