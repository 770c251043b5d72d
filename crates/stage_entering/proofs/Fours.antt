-- Trying the joint steps of a symbol, four outputs after the other.
use Rattle.std.specs.Prelude.{◌≡◌, ◌⊎◌, ◌+◌, ◌-◌, ◌*◌, ◌≤◌, ◌<◌}
use Rattle.basics.proofs.Words.{refl, sym, ◌∙◌, ap, subst, Bool, true, false, List, Option, none, some, Option·none-ne-some, inl, inr, ℕ, zero, suc, arith, length, get_or, member, clash, no_member}
use Rattle.machine.specs.declared.Pair.{Pair}
use Rattle.machine.specs.Symbols.{empty_symbol}
use Rattle.machine.specs.Machine.{Machine}
use Rattle.card.specs.Layout.{symbol_count}
use Rattle.card.specs.Card.{machines_of}
use Rattle.paths.specs.Costs.{AtMost}
use Rattle.paths.specs.Ranked.{Ranked, add, Less, ranked_costs}
use Rattle.paths.specs.Graph.{Edge, Graph}
use Rattle.paths.specs.Labels.{Attained}
use Rattle.product.specs.Nodes.{state_counts, product}
use Rattle.product.specs.ProductGraph.{Move, pairs}
use Rattle.product.specs.Codes.{code_step}
use Rattle.product.specs.Laws.Nodes.{product_positive}
use Rattle.product.specs.Laws.JointStep.{counts_positive}
use Rattle.tables.specs.Places.{six_places, mark_number}
use Rattle.tables.specs.JointNumbers.{numbered, joint_from}
use Rattle.tables.specs.Tables.{CardMachines}
use Rattle.tables.specs.Laws.Cards.{card_machines}
use Rattle.tables.specs.Laws.Edges.{code_step_few}
use Rattle.tables.specs.Laws.Packing.{six_number}
use Rattle.cells.specs.declared.Groups.{Groups}
use Rattle.cells.specs.Cells.{nowhere}
use Rattle.cells.specs.Columns.{WeightsOf, JointCell}
use Rattle.cells.specs.Groups.{GroupsOf, FourAdded}
use Rattle.cells.specs.Groups as adding
use Rattle.cells.specs.Laws.Groups.{all_codes, size_codes}
use Rattle.cells.specs.Laws.Meeting.{four_pre}
use Rattle.cells.specs.Laws.Tried.{lane_pair, lane_sum, code_step_is}
use Rattle.columns.specs.Prepared.{NoSteps, Covered, Prepared}
use Rattle.insertions.specs.Laws.Ranked.{ranked_high, ranked_low}
use Rattle.insertions.proofs.Steps.{marks_length, target_of_lem, marks_are}
use Rattle.stage.specs.StageLabels.{count_of, stage_label}
use Rattle.stage_entering.specs.Relaxation.{Relaxes, relaxes_nothing, relaxes_then}
use Rattle.stage.specs.Relaxing.{LinkedEntry}
use Rattle.stage_entering.specs.Tables.{ListPre}
use Rattle.stage_entering.specs.Entering.{AheadOf, FrontMarks, lane_step, NodesPre, FourPre, FoursOf, CodesTried}
use Rattle.stage_entering.specs.Inputs.{InOrder, SymbolLinked, Among, InputTried}
use Rattle.stage_entering.proofs.Relaxing.{entry_kept}
use Rattle.stage_entering.proofs.Front.{front_of}
use Rattle.stage_entering.proofs.Lanes.{lane_none, lane_some}

-- ---- the numbers of a joint step

module _ {S : ℕ} {ms : List Machine} {ranking ws : List ℕ} (M : CardMachines S ms) (O : InOrder ranking ws) where
  pub lane_step_lem : (c : ℕ) (p : Pair) {h l : ℕ} → JointCell ws (product (state_counts ms)) (code_step ms c p) h l → lane_step h l ≡ joint_from (six_places ranking) ms c p
  lane_step_lem c p {h} {l} J = go (code_step ms c p) refl
    where
      go : (o : Option Move) → code_step ms c p ≡ o → lane_step h l ≡ numbered (six_places ranking) (code_step ms c p)
      go none e = lane_none h l (J.nothing e) ∙ ap (numbered (six_places ranking)) (sym e)
      go (some v) e =
          let m : ℕ → ℕ = (λ i. get_or v.marks (get_or (six_places ranking) i 0) 0) in
          let few : (i : ℕ) → m i ≤ 15 = (λ i. code_step_few M.sound c p v e (get_or (six_places ranking) i 0)) in
          let size : length v.marks ≤ 6 = omega (arith, marks_length ms c p v e, M.machines) in
          let tt : v.target < 128 = omega (arith, J.target v e, J.code, M.joint_states) in
          let high = J.high v e ∙ ap (λ (n : ℕ). v.target + n) (ranked_high O.ranked O.six.size v.marks size) in
          let low = J.low v e ∙ ranked_low O.ranked O.six.size v.marks size in
          let number : mark_number (six_places ranking) v.marks ≡ m 0 * 1048576 + (m 1 * 65536 + (m 2 * 4096 + (m 3 * 256 + (m 4 * 16 + m 5)))) = six_number (six_places ranking) v.marks O.six.size in
          let a = target_of_lem v.target (m 0) (m 1) (m 2) (m 3) (m 4) (m 5) h l (few 0) (few 1) (few 2) (few 3) (few 4) (few 5) tt high low in
          let b = marks_are v.target (m 0) (m 1) (m 2) (m 3) (m 4) (m 5) h l (few 0) (few 1) (few 2) (few 3) (few 4) (few 5) tt high low ∙ sym number in
          lane_some h l (J.there v e) ∙ (λ i. some (a i, b i)) ∙ ap (numbered (six_places ranking)) (sym e)

  -- the marks of the first three constraints
  pub lane_marks : (c : ℕ) (p : Pair) {h l : ℕ} → JointCell ws (product (state_counts ms)) (code_step ms c p) h l → h < nowhere → FrontMarks h l
  lane_marks c p {h} {l} J below = go (code_step ms c p) refl
    where
      go : (o : Option Move) → code_step ms c p ≡ o → FrontMarks h l
      go none e = absurd (omega (arith, J.nothing e, below))
      go (some v) e =
          let m : ℕ → ℕ = (λ i. get_or v.marks (get_or (six_places ranking) i 0) 0) in
          let few : (i : ℕ) → m i ≤ 15 = (λ i. code_step_few M.sound c p v e (get_or (six_places ranking) i 0)) in
          let size : length v.marks ≤ 6 = omega (arith, marks_length ms c p v e, M.machines) in
          let tt : v.target < 128 = omega (arith, J.target v e, J.code, M.joint_states) in
          let high = J.high v e ∙ ap (λ (n : ℕ). v.target + n) (ranked_high O.ranked O.six.size v.marks size) in
          let low = J.low v e ∙ ranked_low O.ranked O.six.size v.marks size in
          front_of v.target (m 0) (m 1) (m 2) (m 3) (m 4) (m 5) h l (few 0) (few 1) (few 2) (few 3) (few 4) (few 5) tt high low

-- ---- what the calls ask

module _ {card counts ws steps : List ℕ} {g : Groups} (T : ListPre card counts ws steps g) where
  machines : CardMachines (symbol_count card) (machines_of card)
  machines = card_machines card T.accepted

  weights_are : WeightsOf (state_counts (machines_of card)) ws
  weights_are = subst (λ (l : List ℕ). WeightsOf l ws) T.counts_are T.weights

  groups_are : GroupsOf (state_counts (machines_of card)) g
  groups_are = subst (λ (l : List ℕ). GroupsOf l g) T.counts_are T.groups

  pub codes_are : g.size ≡ product (state_counts (machines_of card))
  codes_are = groups_are.size_is

  back_some : 0 < g.back
  back_some = positive g.back refl
    where
      some_codes : 0 < g.front * g.back
      some_codes = rw (all_codes groups_are) (product_positive (state_counts (machines_of card)) (counts_positive machines.sound))

      positive : (n : ℕ) → g.back ≡ n → 0 < g.back
      positive zero e = let z : g.front * g.back ≡ 0 = ap (λ (k : ℕ). g.front * k) e ∙ omega arith in absurd (omega (arith, z, some_codes))
      positive (suc n) e = omega arith

  module _ {steps' four high low : List ℕ} {x W kept : ℕ} (X : Prepared (machines_of card) x W steps' kept) (outputs : (j : ℕ) → get_or four j 0 ≤ 64) (eh : length high ≡ 264) (el : length low ≡ 264) where
    pub add_ready : adding.FourPre steps' four counts ws high low W g
    add_ready = subst (λ (l : List ℕ). adding.FourPre steps' four l ws high low W g) (sym T.counts_are) (four_pre machines X.columns weights_are groups_are four high low outputs (omega (arith, T.few)) (omega (arith, T.few)))

    module _ (J : FourAdded steps' four counts ws high low W g) where
      cells_are : (c j : ℕ) → c < g.size → j < 4 → JointCell ws (product (state_counts (machines_of card))) (code_step (machines_of card) c (lane_pair x four j)) (lane_sum high g c j) (lane_sum low g c j)
      cells_are c j h k = code_step_is machines X.columns weights_are groups_are back_some (subst (λ (l : List ℕ). FourAdded steps' four l ws high low W g) T.counts_are J) outputs c j (omega (arith, codes_are)) k

      pub four_ready : {ys ahead ranking : List ℕ} (b k : ℕ) → InOrder ranking ws → NodesPre ys b g.size k → AheadOf ys k (b + g.size) g.size ahead
          → FourPre ys ahead high low (record { groups = g; base = b; stage = k })
      four_ready b k O N A = record {
        given = N;
        few = omega (arith, codes_are, machines.joint_states);
        size_is = size_codes groups_are;
        small = T.few;
        some_back = back_some;
        high_room = omega (arith, T.few);
        low_room = omega (arith, T.few);
        high_sums = λ c j h l. omega (arith, (cells_are c j h l).high_most);
        low_sums = λ c j h l. omega (arith, (cells_are c j h l).low_most);
        leads = λ c j h l. omega (arith, (cells_are c j h l).code, codes_are, machines.joint_states);
        marks = λ c j h l. lane_marks machines O c (lane_pair x four j) (cells_are c j h l);
        ahead_is = A;
      }

      pub lanes_linked : {S : Graph (ranked_costs 1) pairs} {xs ranking : List ℕ} {k b t : ℕ} → InOrder ranking ws → SymbolLinked S xs card ranking k x b t g.size
          → (c j : ℕ) → c < g.size → j < 4 → LinkedEntry S xs k (b + c) (lane_pair x four j) t (lane_step (lane_sum high g c j) (lane_sum low g c j))
      lanes_linked {S} {xs} {ranking} {k} {b} {t} O E c j h l =
          subst (λ (o : Option (ℕ × ℕ)). LinkedEntry S xs k (b + c) (lane_pair x four j) t o) (sym (lane_step_lem machines O c (lane_pair x four j) (cells_are c j h l))) (E.entry c (get_or four j 0) h)

-- ---- four outputs after the other

-- the pairs of the kept outputs that are not left
abbrev pub KeptTried : (x b P kept left : ℕ) → ℕ → Pair → Type 0
KeptTried x b P kept left w q = (q.input ≡ x) × (b ≤ w) × (w < b + P) × (member kept q.output ≡ true) × (member left q.output ≡ false)

pub record FoursTried (card ws xs ys : List ℕ) (x b P k kept left : ℕ) : Type 0 where
  pub size : length ys ≡ length xs
  pub counts : (i w : ℕ) → i < k → count_of ys i w ≡ count_of xs i w
  pub others : (w : ℕ) → (w < b) ⊎ (b + P ≤ w) → stage_label ys k w ≡ stage_label xs k w
  pub relaxes : (ranking : List ℕ) → InOrder ranking ws → (S : Graph (ranked_costs 1) pairs) → SymbolLinked S xs card ranking k x b (b + P) P → Attained S (stage_label xs k)
      → Relaxes S (stage_label xs k) (stage_label ys k) (λ w q. (q.input ≡ x) × (b ≤ w) × (w < b + P) × (member kept q.output ≡ true) × (member left q.output ≡ false))

pub fours_start : {card ws xs : List ℕ} {x b P k kept : ℕ} → FoursTried card ws xs xs x b P k kept kept
fours_start {x = x} {b} {P} {k} {kept} = record {
  size = refl;
  counts = λ i w h. refl;
  others = λ w d. refl;
  relaxes = λ ranking O S E A. relaxes_nothing S A (KeptTried x b P kept kept) (λ w q z. clash z.3 z.4);
}

pub symbol_kept : {S : Graph (ranked_costs 1) pairs} {xs ys card ranking : List ℕ} {k x b t P : ℕ} → ((i w : ℕ) → i < k → count_of ys i w ≡ count_of xs i w) → SymbolLinked S xs card ranking k x b t P → SymbolLinked S ys card ranking k x b t P
symbol_kept C E = record { entry = λ c y h. entry_kept C (E.entry c y h); alike = E.alike }

pub nodes_kept : {xs ys : List ℕ} {b P k : ℕ} → length ys ≡ length xs → ((w : ℕ) → (w < b) ⊎ (b + P ≤ w) → stage_label ys k w ≡ stage_label xs k w) → NodesPre xs b P k → NodesPre ys b P k
nodes_kept e f Q = record { nodes = omega (arith, e, Q.nodes); few = Q.few; stage = Q.stage; fits = λ v d a b l. Q.fits v d a b (sym (f v (inr a)) ∙ l) }

module _ {card counts ws steps : List ℕ} {g : Groups} (T : ListPre card counts ws steps g) {steps' four high low : List ℕ} {x W kept : ℕ} (X : Prepared (machines_of card) x W steps' kept) (outputs : (j : ℕ) → get_or four j 0 ≤ 64)
    (eh : length high ≡ 264) (el : length low ≡ 264) (J : FourAdded steps' four counts ws high low W g) where
  pub fours_next : {xs ys zs : List ℕ} {b k left after : ℕ} → ((y : ℕ) → member left y ≡ true → ((j : ℕ) × (j < 4) × (get_or four j 0 ≡ y)) ⊎ (member after y ≡ true))
      → FoursTried card ws xs ys x b g.size k kept left → CodesTried ys zs high low g.front g.back k b (b + g.size) g.size → FoursTried card ws xs zs x b g.size k kept after
  fours_next {xs} {ys} {zs} {b} {k} {left} {after} or_left F C = record {
    size = C.size ∙ F.size;
    counts = λ i w h. C.counts i w h ∙ F.counts i w h;
    others = λ w d. C.others w d ∙ F.others w d;
    relaxes = λ ranking O S E A.
        let R = F.relaxes ranking O S E A in
        relaxes_then S R (C.relaxes S (lane_pair x four) (lanes_linked T X outputs eh el J O (symbol_kept F.counts E)) R.attained) (KeptTried x b g.size kept after) (λ w q z. pick w q z (member left q.output) refl);
  }
    where
      pick : (w : ℕ) (q : Pair) → KeptTried x b g.size kept after w q → (t : Bool) → member left q.output ≡ t → KeptTried x b g.size kept left w q ⊎ FoursOf (lane_pair x four) b g.size w q
      pick w q z false e = inl (z.0, z.1, z.2, z.3, e)
      pick w q z true e = lane (or_left q.output e)
        where
          lane : ((j : ℕ) × (j < 4) × (get_or four j 0 ≡ q.output)) ⊎ (member after q.output ≡ true) → KeptTried x b g.size kept left w q ⊎ FoursOf (lane_pair x four) b g.size w q
          lane (inl y) = inr (z.1, z.2, (y.0, y.1, λ i. record { input = z.0 i; output = sym y.2 i }))
          lane (inr y) = absurd (clash y z.4)

-- no output is left
pub fours_end : {card ws xs ys steps : List ℕ} {x W b k kept left P : ℕ} → P ≡ product (state_counts (machines_of card)) → 1 ≤ x → Prepared (machines_of card) x W steps kept → left ≤ 0 → FoursTried card ws xs ys x b P k kept left → InputTried card ws xs ys x b P k
fours_end {card} {ws} {xs} {ys} {x = x} {b = b} {k = k} {kept = kept} {left = left} {P = P} size reads X z F = record {
  size = F.size;
  counts = F.counts;
  others = F.others;
  relaxes = λ ranking O S E A.
      let R = F.relaxes ranking O S E A in
      record { attained = R.attained; falls = R.falls; tried = λ u p e d a h l. serves ranking S E R u p e d a h l (X.covers p.output a.3) };
}
  where
    gone : left ≡ 0
    gone = omega arith

    serves : (ranking : List ℕ) (S : Graph (ranked_costs 1) pairs) → SymbolLinked S xs card ranking k x b (b + P) P → Relaxes S (stage_label xs k) (stage_label ys k) (λ w q. (q.input ≡ x) × (b ≤ w) × (w < b + P) × (member kept q.output ≡ true) × (member left q.output ≡ false))
        → (u : ℕ) (p : Pair) (e : Edge (Ranked 1)) (d : Ranked 1) → Among x b P u p → S.edge u p ≡ some e → stage_label xs k e.target ≡ some d
        → ((x ≡ empty_symbol) × (p.output ≡ empty_symbol)) ⊎ (NoSteps (machines_of card) x p.output ⊎ Covered (machines_of card) x kept p.output) → AtMost (Less 1) (stage_label ys k u) (add 1 e.cost d)
    serves ranking S E R u p e d a h l (inl c) = absurd (omega (arith, c.0))
    serves ranking S E R u p e d a h l (inr c) = go c
      where
        z' : ℕ
        z' = u - b

        at_u : b + z' ≡ u
        at_u = omega (arith, a.1)

        small : z' < P
        small = omega (arith, a.1, a.2)

        edge_is : S.edge (b + z') (record { input = x; output = p.output }) ≡ some e
        edge_is = (λ i. S.edge (at_u i) (record { input = sym a.0 i; output = p.output })) ∙ h

        go : NoSteps (machines_of card) x p.output ⊎ Covered (machines_of card) x kept p.output → AtMost (Less 1) (stage_label ys k u) (add 1 e.cost d)
        go (inl n) = absurd (Option·none-ne-some e (sym ((E.entry z' p.output small).gone (ap (numbered (six_places ranking)) (n z'))) ∙ edge_is))
        go (inr v) =
            let q : S.edge (b + z') (record { input = x; output = v.other }) ≡ S.edge (b + z') (record { input = x; output = p.output }) = E.alike z' v.other p.output small (ap (numbered (six_places ranking)) (v.same z' (omega (arith, small, size)))) in
            let f : S.edge u (record { input = x; output = v.other }) ≡ some e = ap (λ (w : ℕ). S.edge w (record { input = x; output = v.other })) (sym at_u) ∙ q ∙ edge_is in
            R.tried u (record { input = x; output = v.other }) e d (refl, a.1, a.2, v.is_kept_lem, ap (λ (n : ℕ). member n v.other) gone ∙ no_member v.other) f l
