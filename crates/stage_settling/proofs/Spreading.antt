-- Settling a position by its insertions: one entry, the entries to one code, code after code until none is open.
use Rattle.std.specs.Prelude.{◌≡◌, ◌⊎◌, ◌≢◌, ◌+◌, ◌*◌, ◌≤◌, ◌<◌}
use Rattle.basics.proofs.Words.{refl, sym, ◌∙◌, ap, subst, subst₂, Bool, true, false, cond, List, some, Option·none-ne-some, inl, inr, ℕ, zero, suc, arith, length, get_or, ℕ_discrete, clash, fails}
use Rattle.paths.specs.Costs.{AtMost, Lowers, kept, lowered}
use Rattle.paths.specs.Ranked.{Ranked, Less, count_at, ranked_costs, less_total}
use Rattle.paths.specs.Graph.{Graph, run→cost}
use Rattle.paths.specs.Labels.{Attained, held→run}
use Rattle.paths.specs.Improvement.{Falls, improves_upto, improve_edge}
use Rattle.tables.specs.Marks.{marks_cost}
use Rattle.product.specs.ProductGraph.{pairs}
use Rattle.settling.specs.Insertions.{code_in, is_listed}
use Rattle.settling.specs.OpenCodes.{is_open, OneIn, OneMore, OneLess}
use Rattle.settling.proofs.Insertions.{listed_low, listed_high}
use Rattle.settling.proofs.OpenCodes.{one_in, chosen_front, chosen_back}
use Rattle.stage.specs.StageLabels.{count_of, stage_label}
use Rattle.stage.specs.Relaxing.{ArcTried, unlabelled, dropped, lowered as lowered-arc}
use Rattle.stage_settling.specs.Settling.{Kept, way_by, marks_of, from_of, ArcsOf, SettlePre, EntryPre, EntryTried, OpenIn, SomeIn, open_count, turns, Fell, RelaxedAt, FromFirst, Spread, Taken, SettledBy}
use Rattle.stage.proofs.Trying.{StepFacts, arc_facts, arc_falls}

-- ---- the number of open codes

count_others : (os ps : List ℕ) (P : ℕ) → ((w : ℕ) → w < P → is_open ps w ≡ is_open os w) → open_count ps P ≡ open_count os P
unfolding open_count
count_others os ps zero f = refl
count_others os ps (suc P) f = (λ i. cond (f P (omega arith) i) 1 0 + count_others os ps P (λ w h. f w (omega arith)) i)

abbrev bit : Bool → ℕ
bit b = cond b 1 0

bit_most : (b : Bool) → bit b ≤ 1
bit_most true = omega arith
bit_most false = omega arith

bit_same : {a b : Bool} → a ≡ b → bit a ≡ bit b
bit_same e = ap bit e

count_more : {os ps : List ℕ} {u : ℕ} → OneMore os ps u → (P : ℕ) → open_count ps P ≤ open_count os P + 1
unfolding open_count
count_more O zero = omega arith
count_more {os} {ps} {u} O (suc P) = go (ℕ_discrete P u) (count_more O P)
  where
    go : Dec (P ≡ u) → open_count ps P ≤ open_count os P + 1 → cond (is_open ps P) 1 0 + open_count ps P ≤ cond (is_open os P) 1 0 + open_count os P + 1
    go (yes q) rec = omega (arith, bit_most (is_open ps P), count_others os ps P (λ w h. O.others w (omega arith)))
    go (no n) rec = omega (arith, bit_same (O.others P n), rec)

count_less : {os ps : List ℕ} {u : ℕ} → OneLess os ps u → is_open os u ≡ true → (P : ℕ) → u < P → open_count ps P < open_count os P
unfolding open_count
count_less O t zero h = absurd (omega arith)
count_less {os} {ps} {u} O t (suc P) h = go (ℕ_discrete P u) (count_less O t P)
  where
    go : Dec (P ≡ u) → (u < P → open_count ps P < open_count os P) → cond (is_open ps P) 1 0 + open_count ps P < cond (is_open os P) 1 0 + open_count os P
    go (yes q) rec =
        let a : bit (is_open ps P) ≡ bit false = bit_same (ap (is_open ps) q ∙ O.here) in
        let b : bit (is_open os P) ≡ bit true = bit_same (ap (is_open os) q ∙ t) in
        omega (arith, a, b, count_others os ps P (λ w h. O.others w (omega arith)))
    go (no n) rec = omega (arith, bit_same (O.others P n), rec (omega arith))

-- ---- one arc

-- its target keeps its label, also where the arc leads back to its node
target_same : {xs ys : List ℕ} {u v m k : ℕ} {r : Bool} → ArcTried xs ys u v m k r → stage_label ys k v ≡ stage_label xs k v
target_same {v = v} {k = k} (unlabelled l q e) = ap (λ (zs : List ℕ). stage_label zs k v) e
target_same {v = v} {k = k} (dropped d l i h n q e) = ap (λ (zs : List ℕ). stage_label zs k v) e
target_same {xs} {ys} {u} {v} {m} {k} (lowered-arc d l f L) = go (ℕ_discrete v u) L.label.here
  where
    go : Dec (v ≡ u) → Lowers (Less 1) (stage_label xs k u) (way_by k m d) (stage_label ys k u) → stage_label ys k v ≡ stage_label xs k v
    go (no n) w = L.label.others v n
    go (yes q) (kept a e) = ap (stage_label ys k) q ∙ e ∙ ap (stage_label xs k) (sym q)
    go (yes q) (lowered a e) = absurd (no_less (a d (ap (stage_label xs k) (sym q) ∙ l)))
      where
        no_less : Less 1 (way_by k m d) d → ⊥
        no_less (inl h) = omega arith
        no_less (inr h) = omega (arith, h.1)

-- the arc gives its node no less then
arc_relaxed : {xs ys : List ℕ} {u v m k : ℕ} {r : Bool} → ArcTried xs ys u v m k r → (d : Ranked 1) → stage_label xs k v ≡ some d → Kept xs k u v m → AtMost (Less 1) (stage_label ys k u) (way_by k m d)
arc_relaxed (unlabelled l q e) d a f = absurd (Option·none-ne-some d (sym l ∙ a))
arc_relaxed (dropped c l i h n q e) d a f = absurd (n (f i h))
arc_relaxed {ys = ys} {u = u} {m = m} {k = k} (lowered-arc c l g L) d a f =
    let q : c ≡ d = cc (l, a) in
    subst (λ (z : Ranked 1). AtMost (Less 1) (stage_label ys k u) (way_by k m z)) q (improves_upto (less_total 1) L.label)

module _ {xs entries ends : List ℕ} {k b : ℕ} (S : Graph (ranked_costs 1) pairs) (E : ArcsOf S xs entries ends k b) (A : Attained S (stage_label xs k)) where
  arc_attained : {ys : List ℕ} {r : Bool} (v at : ℕ) → is_listed ends v at ≡ true → ArcTried xs ys (from_of entries b at) (b + v) (marks_of entries at) k r → Attained S (stage_label ys k)
  arc_attained v at p (unlabelled l q e) = subst (λ (zs : List ℕ). Attained S (stage_label zs k)) (sym e) A
  arc_attained v at p (dropped d l i h n q e) = subst (λ (zs : List ℕ). Attained S (stage_label zs k)) (sym e) A
  arc_attained v at p (lowered-arc d l f L) =
      let a = A (b + v) d l in
      let e = E.edge v at p a.letters d (run→cost S (held→run S a.held)) f in
      improve_edge S A L.label e.0 (record { target = b + v; cost = (count_at 6 k (marks_cost (marks_of entries at)), 1) }) d e.1 l refl

-- ---- the counts below k stay

kept_back : (xs ys : List ℕ) (k : ℕ) → ((i w : ℕ) → i < k → count_of ys i w ≡ count_of xs i w) → (u v m : ℕ) → Kept ys k u v m → Kept xs k u v m
kept_back xs ys k C u v m f i l = omega (arith, f i l, C i u l, C i v l)

pub arcs_kept : {S : Graph (ranked_costs 1) pairs} {xs ys entries ends : List ℕ} {k b : ℕ} → ((i w : ℕ) → i < k → count_of ys i w ≡ count_of xs i w) → ArcsOf S xs entries ends k b → ArcsOf S ys entries ends k b
arcs_kept {xs = xs} {ys = ys} {entries = entries} {k = k} {b = b} C E = record { edge = λ v at p ps d w f. E.edge v at p ps d w (kept_back xs ys k C (from_of entries b at) (b + v) (marks_of entries at) f) }

-- ---- what fell

fell_nothing : {xs os entries ends : List ℕ} {k b P : ℕ} → Fell xs xs os os entries ends k b P
fell_nothing = record {
  size = refl;
  bits = refl;
  counts = λ i w h. refl;
  others = λ w d. refl;
  falls = λ w c m. m;
  stays = λ w h. h;
  inside = λ w h. inl h;
  same = λ w h. refl;
  fewer = omega arith;
  attained = λ S E A. A;
}

fell_then : {xs ys zs os ps qs entries ends : List ℕ} {k b P : ℕ} → Fell xs ys os ps entries ends k b P → Fell ys zs ps qs entries ends k b P → Fell xs zs os qs entries ends k b P
fell_then {os = os} {ps = ps} {qs = qs} {P = P} A B = record {
  size = B.size ∙ A.size;
  bits = B.bits ∙ A.bits;
  counts = λ i w h. B.counts i w h ∙ A.counts i w h;
  others = λ w d. B.others w d ∙ A.others w d;
  falls = λ w c m. B.falls w c (A.falls w c m);
  stays = λ w h. B.stays w (A.stays w h);
  inside = λ w h. go w (B.inside w h);
  same = λ w h. B.same w h ∙ A.same w (fails (is_open ps w) (λ t. clash (B.stays w t) h));
  fewer = omega (arith, A.fewer, B.fewer);
  attained = λ S E Z. B.attained S (arcs_kept A.counts E) (A.attained S E Z);
}
  where
    go : (w : ℕ) → (is_open ps w ≡ true) ⊎ (w < P) → (is_open os w ≡ true) ⊎ (w < P)
    go w (inl h) = A.inside w h
    go w (inr h) = inr h

-- one entry was tried
module _ {xs ys os ps : List ℕ} (entries ends : List ℕ) {k b : ℕ} (P v at : ℕ) (p : is_listed ends v at ≡ true) (h : code_in (get_or entries at 0) < P) (T : EntryTried xs ys os ps (get_or entries at 0) k b v) where
  F : StepFacts xs ys k (from_of entries b at) T.lower
  F = arc_facts T.tried

  entry_fell : Fell xs ys os ps entries ends k b P
  entry_fell = go T.lower refl
    where
      away : (w : ℕ) → (w < b) ⊎ (b + P ≤ w) → w ≢ from_of entries b at
      away w (inl d) = omega arith
      away w (inr d) = omega arith

      go : (r : Bool) → T.lower ≡ r → Fell xs ys os ps entries ends k b P
      go false q =
          subst (λ (zs : List ℕ). Fell xs zs os ps entries ends k b P) (sym (F.same q))
          (subst (λ (rs : List ℕ). Fell xs xs os rs entries ends k b P) (sym (T.same q)) fell_nothing)
      go true q =
          let O = T.more q in
          record {
            size = F.size;
            bits = O.size;
            counts = F.counts;
            others = λ w d. F.others w (away w d);
            falls = arc_falls T.tried;
            stays = λ w z. stays w z (ℕ_discrete w (code_in (get_or entries at 0)));
            inside = λ w z. inside w z (ℕ_discrete w (code_in (get_or entries at 0)));
            same = λ w z. F.others (b + w) (λ e. clash O.here (ap (is_open ps) (omega (arith, e)) ∙ z));
            fewer = omega (arith, F.less q b P (omega arith) (omega arith), count_more O P);
            attained = λ S E A. arc_attained S E A v at p T.tried;
          }
        where
          stays : (w : ℕ) → is_open os w ≡ true → Dec (w ≡ code_in (get_or entries at 0)) → is_open ps w ≡ true
          stays w z (yes e) = ap (is_open ps) e ∙ (T.more q).here
          stays w z (no n) = (T.more q).others w n ∙ z

          inside : (w : ℕ) → is_open ps w ≡ true → Dec (w ≡ code_in (get_or entries at 0)) → (is_open os w ≡ true) ⊎ (w < P)
          inside w z (yes e) = inr (omega arith)
          inside w z (no n) = inl (sym ((T.more q).others w n) ∙ z)

-- ---- the entries to one code

-- those at places before `at` were tried
pub record Spreading (xs ys os ps entries ends : List ℕ) (k b v at : ℕ) : Type 0 where
  pub fell : (P : ℕ) → FromFirst entries ends v P → Fell xs ys os ps entries ends k b P
  pub label : stage_label ys k (b + v) ≡ stage_label xs k (b + v)
  pub relaxed : (n : ℕ) → is_listed ends v n ≡ true → n < at → RelaxedAt ys entries k b v n

pub spreading_start : {xs os entries ends : List ℕ} {k b v at : ℕ} → at ≡ get_or ends (4 * v) 0 → Spreading xs xs os os entries ends k b v at
spreading_start {ends = ends} {v = v} q = record { fell = λ P f. fell_nothing; label = refl; relaxed = λ n p h. absurd (omega (arith, q, h, listed_low ends v n p)) }

pub spreading_step : {xs ys zs os ps qs entries ends : List ℕ} {k b v at : ℕ} → Spreading xs ys os ps entries ends k b v at → is_listed ends v at ≡ true → EntryTried ys zs ps qs (get_or entries at 0) k b v
    → Spreading xs zs os qs entries ends k b v (at + 1)
spreading_step {xs} {ys} {zs} {os} {ps} {qs} {entries} {ends} {k} {b} {v} {at} S p T = record { fell = λ P f. fell_then (S.fell P f) (entry_fell entries ends P v at p (f at p) T); label = t ∙ S.label; relaxed = λ n z l. relaxed n z l (ℕ_discrete n at) }
  where
    t : stage_label zs k (b + v) ≡ stage_label ys k (b + v)
    t = target_same T.tried

    C : (i w : ℕ) → i < k → count_of zs i w ≡ count_of ys i w
    C = (arc_facts T.tried).counts

    relaxed : (n : ℕ) → is_listed ends v n ≡ true → n < at + 1 → Dec (n ≡ at) → RelaxedAt zs entries k b v n
    relaxed n z l (no d) = λ c e f. arc_falls T.tried _ _ (S.relaxed n z (omega arith) c (sym t ∙ e) (kept_back ys zs k C (from_of entries b n) (b + v) (marks_of entries n) f))
    relaxed n z l (yes q) = subst (λ (j : ℕ). RelaxedAt zs entries k b v j) (sym q) (λ c e f. arc_relaxed T.tried c (sym t ∙ e) (kept_back ys zs k C (from_of entries b at) (b + v) (marks_of entries at) f))

pub spreading_end : {xs ys os ps entries ends : List ℕ} {k b v at : ℕ} → Spreading xs ys os ps entries ends k b v at → get_or ends (4 * v + 4) 0 ≤ at → Spread xs ys os ps entries ends k b v
spreading_end {ends = ends} {v = v} S h = record { fell = S.fell; relaxed = λ n p. S.relaxed n p (omega (arith, h, listed_high ends v n p)) }

-- what the functions are given while labels fall
pub settle_kept : {xs ys os ps entries ends : List ℕ} {k b P : ℕ} → SettlePre xs entries ends k b P → Fell xs ys os ps entries ends k b P → SettlePre ys entries ends k b P
settle_kept Q F = record {
  graph = Q.graph;
  arcs = arcs_kept F.counts Q.arcs;
  attained = F.attained Q.graph Q.arcs Q.attained;
  fits = Q.fits;
  nodes = omega (arith, F.size, Q.nodes);
  few_nodes = Q.few_nodes;
  few = Q.few;
  stage = Q.stage;
  within = Q.within;
  to = Q.to;
  from = Q.from;
}

pub entry_ready : {xs os entries ends : List ℕ} {k b P : ℕ} (v at : ℕ) → SettlePre xs entries ends k b P → length os ≡ 2 → is_listed ends v at ≡ true → EntryPre xs os (get_or entries at 0) k b v
entry_ready {xs} {entries = entries} {k = k} {b = b} v at Q two p = record {
  arc = record {
    node = omega (arith, Q.from v at p, Q.nodes);
    target = omega (arith, Q.to v at p, Q.nodes);
    marks = omega arith;
    stage = Q.stage;
    fits = λ d l. Q.fits (stage_label xs k) Q.attained (b + v) d (omega arith) (omega (arith, Q.to v at p)) l;
  };
  few = omega (arith, Q.few_nodes);
  code = omega (arith, Q.to v at p, Q.few);
  from = omega (arith, Q.from v at p, Q.few);
  bits = two;
}

-- ---- until no code is open

-- the codes from n on that are not open are done
pub record Settling (xs ys os entries ends : List ℕ) (k b P n : ℕ) : Type 0 where
  pub size : length ys ≡ length xs
  pub counts : (i w : ℕ) → i < k → count_of ys i w ≡ count_of xs i w
  pub others : (w : ℕ) → (w < b) ⊎ (b + P ≤ w) → stage_label ys k w ≡ stage_label xs k w
  pub falls : Falls (Less 1) (stage_label xs k) (stage_label ys k)
  pub attained : (S : Graph (ranked_costs 1) pairs) → ArcsOf S xs entries ends k b → Attained S (stage_label xs k) → Attained S (stage_label ys k)
  pub bits : length os ≡ 2
  pub inside : (w : ℕ) → is_open os w ≡ true → w < P
  pub relaxed : (v at : ℕ) → n ≤ v → is_listed ends v at ≡ true → is_open os v ≡ false → RelaxedAt ys entries k b v at

pub settling_start : {xs os entries ends : List ℕ} {k b P : ℕ} → SettlePre xs entries ends k b P → length os ≡ 2 → ((w : ℕ) → is_open os w ≡ false) → Settling xs xs os entries ends k b P P
settling_start Q two n = record {
  size = refl;
  counts = λ i w h. refl;
  others = λ w d. refl;
  falls = λ w c m. m;
  attained = λ S E A. A;
  bits = two;
  inside = λ w h. absurd (clash h (n w));
  relaxed = λ v at h p z. absurd (omega (arith, h, Q.to v at p));
}

module _ {xs ys os entries ends : List ℕ} {k b P n : ℕ} (Z : Settling xs ys os entries ends k b P n) where
  pub settling_ready : SettlePre xs entries ends k b P → SettlePre ys entries ends k b P
  settling_ready Q = record {
    graph = Q.graph;
    arcs = arcs_kept Z.counts Q.arcs;
    attained = Z.attained Q.graph Q.arcs Q.attained;
    fits = Q.fits;
    nodes = omega (arith, Z.size, Q.nodes);
    few_nodes = Q.few_nodes;
    few = Q.few;
    stage = Q.stage;
    within = Q.within;
    to = Q.to;
    from = Q.from;
  }

  pub settling_end : n ≤ 0 → ((w : ℕ) → is_open os w ≡ false) → SettledBy xs ys entries ends k b P
  settling_end z o = record { size = Z.size; counts = Z.counts; others = Z.others; falls = Z.falls; attained = Z.attained; closed = λ v at p. Z.relaxed v at (omega arith) p (o v) }

  pub settling_same : {zs ps : List ℕ} → zs ≡ ys → ps ≡ os → Settling xs zs ps entries ends k b P n
  settling_same e f = subst₂ (λ (zs ps : List ℕ). Settling xs zs ps entries ends k b P n) (sym e) (sym f) Z

  module _ {zs ps : List ℕ} {v : ℕ} (f : FromFirst entries ends v P) (T : Taken ys zs os ps entries ends k b v) where
    fall : Fell ys zs T.between ps entries ends k b P
    fall = T.spread.fell P f

    -- and with v the codes from m on
    pub settling_step : (m : ℕ) → ((w : ℕ) → m ≤ w → w ≢ v → n ≤ w) → Settling xs zs ps entries ends k b P m
    settling_step m up = record {
      size = fall.size ∙ Z.size;
      counts = λ i w h. fall.counts i w h ∙ Z.counts i w h;
      others = λ w d. fall.others w d ∙ Z.others w d;
      falls = λ w c m. fall.falls w c (Z.falls w c m);
      attained = λ S E A. fall.attained S (arcs_kept Z.counts E) (Z.attained S E A);
      bits = fall.bits ∙ T.less.size ∙ Z.bits;
      inside = λ w h. inside w (fall.inside w h);
      relaxed = λ w at l p h. relaxed w at l p h (ℕ_discrete w v);
    }
      where
        was : (w : ℕ) → is_open T.between w ≡ true → Dec (w ≡ v) → is_open os w ≡ true
        was w h (yes q) = absurd (clash h (ap (is_open T.between) q ∙ T.less.here))
        was w h (no n) = sym (T.less.others w n) ∙ h

        inside : (w : ℕ) → (is_open T.between w ≡ true) ⊎ (w < P) → w < P
        inside w (inl h) = Z.inside w (was w h (ℕ_discrete w v))
        inside w (inr h) = h

        relaxed : (w at : ℕ) → m ≤ w → is_listed ends w at ≡ true → is_open ps w ≡ false → Dec (w ≡ v) → RelaxedAt zs entries k b w at
        relaxed w at a p h (yes q) = subst (λ (n : ℕ). RelaxedAt zs entries k b n at) (sym q) (T.spread.relaxed at (subst (λ (n : ℕ). is_listed ends n at ≡ true) q p))
        relaxed w at a p h (no d') = λ d l f.
            let still : is_open T.between w ≡ false = fails (is_open T.between w) (λ t. clash (fall.stays w t) h) in
            fall.falls _ _ (Z.relaxed w at (up w a d') p (sym (T.less.others w d') ∙ still) d (sym (fall.same w h) ∙ l) (kept_back ys zs k fall.counts (from_of entries b at) (b + w) (marks_of entries at) f))

    -- a turn: an open code is taken
    pub turn_less : is_open os v ≡ true → turns zs ps k b P < turns ys os k b P
    turn_less h = omega (arith, fall.fewer, count_less T.less h P (Z.inside v h))

-- ---- choosing an open code

module _ (os : List ℕ) (two : length os ≡ 2) {r : ℕ} where
  pub open_front : OneIn (get_or os 0 0) 0 r → is_open os r ≡ true
  open_front o = (chosen_front os two r o).found (omega (arith, o.is, o.small))

  pub open_back : OneIn (get_or os 1 0) 64 r → is_open os r ≡ true
  open_back o = (chosen_back os two r o).found (omega (arith, o.is, o.small))

module _ {xs os : List ℕ} {b : ℕ} (Q : OpenIn xs os b) where
  pub front_in : SomeIn xs (get_or os 0 0) 0 b
  front_in = record { few = Q.few; half = omega arith; there = λ c h m. Q.there (0 + c) (open_front os Q.bits (one_in (get_or os 0 0) 0 c (0 + c) h m refl)) }

  pub back_in : SomeIn xs (get_or os 1 0) 64 b
  back_in = record { few = Q.few; half = omega arith; there = λ c h m. Q.there (64 + c) (open_back os Q.bits (one_in (get_or os 1 0) 64 c (64 + c) h m refl)) }
