-- Laws of a stage's labels in the work slice: reading, comparing and writing one.
use Rattle.std.specs.Prelude.{◌≡◌, ◌⊎◌, ◌≢◌, ◌+◌, ◌*◌, ◌≤◌, ◌<◌, Some}
use Rattle.std.specs.declared.cmp.Ordering.{Ordering}
use Rattle.std.specs.Ordering.{MatchOrdering, is_lt, is_some_and, partial_lt, partial_ordering_then, nat_cmp}
use Rattle.std.specs.Cmp.{ranks}
use Rattle.basics.proofs.Words.{refl, sym, ◌∙◌, ap, subst, Bool, true, false, cond, false≢true, List, Option, none, some, inl, inr, ℕ, arith, length, get_or, set, length-set, eqb, get_or-set_same, get_or-set_other, ℕ_discrete, dec_lt, eqb-true, eq-eqb, ne_eqb}
use Rattle.paths.specs.Costs.{AtMost, Above, kept, lowered, above_none, above_some}
use Rattle.paths.specs.Ranked.{Ranked, Less, count_at}
use Rattle.tables.specs.Marks.{marks_cost}
use Rattle.tables.specs.MarksLaws.{nibbles_most}
use Rattle.tables.specs.Work.{state_of}
use Rattle.stage.specs.Below.{Below, below_none}
use Rattle.stage.specs.StageLabels.{count_of, pair_count_of, stage_label}
use Rattle.stage.specs.Relaxing.{Makes, counts_of, LeftTold, Compared, Written, Lowered, ArcPre, ArcTried}
use Rattle.stage.proofs.Totals.{height_less, total_less}

-- ---- what a label is

module _ (xs : List ℕ) (k u : ℕ) where
  pub stage_labelled : state_of xs u ≢ 0 → stage_label xs k u ≡ some (count_of xs k u, pair_count_of xs u)
  unfolding stage_label
  stage_labelled n = ap {B = Option (Ranked 1)} (λ (b : Bool). cond b none (some (count_of xs k u, pair_count_of xs u))) (ne_eqb (state_of xs u) 0 n)

  pub stage_unlabelled : state_of xs u ≡ 0 → stage_label xs k u ≡ none
  unfolding stage_label
  stage_unlabelled e = ap {B = Option (Ranked 1)} (λ (b : Bool). cond b none (some (count_of xs k u, pair_count_of xs u))) (eq-eqb (state_of xs u) 0 e)

  pub stage_alike : (ys : List ℕ) → state_of ys u ≡ state_of xs u → count_of ys k u ≡ count_of xs k u → pair_count_of ys u ≡ pair_count_of xs u → stage_label ys k u ≡ stage_label xs k u
  unfolding stage_label
  stage_alike ys a b c = λ i. cond (eqb (a i) 0) none (some (b i, c i))

-- ---- what the stages before kept

-- the counts below k are made by the marks m and what comes after
pub record KeptBelow (xs : List ℕ) (u m : ℕ) (after : ℕ → ℕ) (k : ℕ) : Type 0 where
  pub is : Below (Makes xs u m after) k

pub left_start : {xs : List ℕ} {u m : ℕ} {after : ℕ → ℕ} → KeptBelow xs u m after 0
left_start {xs} {u} {m} {after} = record { is = below_none (Makes xs u m after) }

pub left_next : {xs : List ℕ} {u m i : ℕ} {after : ℕ → ℕ} {a : ℕ} → KeptBelow xs u m after i → a ≡ count_at 6 i (marks_cost m) → count_of xs i u ≡ a + after i → KeptBelow xs u m after (i + 1)
left_next {xs} {u} {m} {i} {after} f e h = record { is = λ j l. go j l (ℕ_discrete j i) }
  where
    go : (j : ℕ) → j < i + 1 → Dec (j ≡ i) → Makes xs u m after j
    go j l (yes q) = rw q (omega (arith, h, e))
    go j l (no n) = f.is j (omega arith)

pub left_told : {xs : List ℕ} {u m i k : ℕ} {after : ℕ → ℕ} → KeptBelow xs u m after i → k ≤ i → LeftTold xs u m k after true
left_told f h = record { kept = λ _ j l. f.is j (omega arith); dropped = λ q. absurd (false≢true (sym q)) }

pub left_broken : {xs : List ℕ} {u m : ℕ} (i : ℕ) {k a : ℕ} {after : ℕ → ℕ} → i < k → a ≡ count_at 6 i (marks_cost m) → count_of xs i u ≢ a + after i → LeftTold xs u m k after false
left_broken i h e n = record { kept = λ q. absurd (false≢true q); dropped = λ _. (i, h, λ z. n (omega (arith, z, e))) }

-- one count was compared
pub makes_next : {xs : List ℕ} {u m i a : ℕ} {r : Bool} (v : ℕ) → KeptBelow xs u m (counts_of xs v) i → a ≡ count_at 6 i (marks_cost m) → r ≡ eqb (count_of xs i u) (a + count_of xs i v) → r ≡ true → KeptBelow xs u m (counts_of xs v) (i + 1)
makes_next {xs} {u} {i = i} {a = a} v K e p q = left_next K e (eqb-true (count_of xs i u) (a + count_of xs i v) (sym p ∙ q))

pub makes_broken : {xs : List ℕ} {u m : ℕ} (i v : ℕ) {k a : ℕ} {r : Bool} → i < k → a ≡ count_at 6 i (marks_cost m) → r ≡ eqb (count_of xs i u) (a + count_of xs i v) → r ≡ false → LeftTold xs u m k (counts_of xs v) false
makes_broken {xs} {u} i v {a = a} h e p q = left_broken i h e (λ z. false≢true (sym q ∙ p ∙ eq-eqb (count_of xs i u) (a + count_of xs i v) z))

-- ---- comparing

module _ (xs : List ℕ) (k u : ℕ) where
  pub compared_none : (c : Ranked 1) → state_of xs u ≡ 0 → Compared xs u k c (eqb (state_of xs u) 0)
  compared_none c e = record {
    below = λ _. above_none (Less 1) c (stage_unlabelled xs k u e);
    upto = λ q. absurd (false≢true (sym q ∙ eq-eqb (state_of xs u) 0 e));
  }

  module _ (a n : ℕ) (labelled : state_of xs u ≢ 0) where
    -- by the order of the marks and that of the pairs
    in_order : (r s : Ordering) → MatchOrdering r (a < count_of xs k u) (a ≡ count_of xs k u) (count_of xs k u < a) → MatchOrdering s (n < pair_count_of xs u) (n ≡ pair_count_of xs u) (pair_count_of xs u < n)
        → Compared xs u k (a, n) (is_some_and is_lt (partial_ordering_then (Some r) (Some s)))
    in_order Ordering.Less s h l = record { below = λ _. above_some (Less 1) (stage_labelled xs k u labelled) (inl h); upto = λ q. absurd (false≢true (sym q)) }
    in_order Ordering.Equal Ordering.Less h l = record { below = λ _. above_some (Less 1) (stage_labelled xs k u labelled) (inr (h, l)); upto = λ q. absurd (false≢true (sym q)) }
    in_order Ordering.Equal Ordering.Equal h l = record { below = λ q. absurd (false≢true q); upto = λ _. record { val = (count_of xs k u, pair_count_of xs u); is = stage_labelled xs k u labelled; upto = inr (λ i. (sym h i, sym l i)) } }
    in_order Ordering.Equal Ordering.Greater h l = record { below = λ q. absurd (false≢true q); upto = λ _. record { val = (count_of xs k u, pair_count_of xs u); is = stage_labelled xs k u labelled; upto = inl (inr (sym h, l)) } }
    in_order Ordering.Greater s h l = record { below = λ q. absurd (false≢true q); upto = λ _. record { val = (count_of xs k u, pair_count_of xs u); is = stage_labelled xs k u labelled; upto = inl (inl h) } }

    pub compared_less : Compared xs u k (a, n) (partial_lt (λ (c d : ℕ × ℕ). partial_ordering_then (Some (nat_cmp c.0 d.0)) (Some (nat_cmp c.1 d.1))) (a, n) (count_of xs k u, pair_count_of xs u))
    compared_less = in_order (nat_cmp a (count_of xs k u)) (nat_cmp n (pair_count_of xs u)) (ranks a (count_of xs k u)) (ranks n (pair_count_of xs u))

-- ---- writing

-- two places of two nodes
pub spaced : (w u i j : ℕ) → i < 8 → j < 8 → (w ≢ u) ⊎ (i ≢ j) → w * 8 + i ≢ u * 8 + j
spaced w u i j a b d e = go (dec_lt w u) (dec_lt u w) d
  where
    go : Dec (w < u) → Dec (u < w) → (w ≢ u) ⊎ (i ≢ j) → ⊥
    go (yes h) _ _ = omega arith
    go (no h) (yes l) _ = omega arith
    go (no h) (no l) (inl n) = n (omega arith)
    go (no h) (no l) (inr n) = n (omega arith)

module _ (xs : List ℕ) (k u a n : ℕ) (few : k < 6) (room : u * 8 + 7 < length xs) where
  abbrev one : List ℕ
  one = set xs (u * 8) 1

  abbrev two : List ℕ
  two = set one (u * 8 + 1 + k) a

  abbrev three : List ℕ
  three = set two (u * 8 + 7) n

  other : (j : ℕ) → j ≢ u * 8 → j ≢ u * 8 + 1 + k → j ≢ u * 8 + 7 → get_or three j 0 ≡ get_or xs j 0
  other j p q r = get_or-set_other two (u * 8 + 7) j n 0 r ∙ get_or-set_other one (u * 8 + 1 + k) j a 0 q ∙ get_or-set_other xs (u * 8) j 1 0 p

  -- the place i of the node w, which none of the three is
  unchanged : (w i : ℕ) → i < 8 → (w ≢ u) ⊎ ((i ≢ 0) × (i ≢ 1 + k) × (i ≢ 7)) → get_or three (w * 8 + i) 0 ≡ get_or xs (w * 8 + i) 0
  unchanged w i h (inl d) = other (w * 8 + i) (λ e. spaced w u i 0 h (omega arith) (inl d) (omega (arith, e))) (λ e. spaced w u i (1 + k) h (omega arith) (inl d) (omega (arith, e))) (λ e. spaced w u i 7 h (omega arith) (inl d) (omega (arith, e)))
  unchanged w i h (inr d) = other (w * 8 + i) (λ e. spaced w u i 0 h (omega arith) (inr d.0) (omega (arith, e))) (λ e. spaced w u i (1 + k) h (omega arith) (inr d.1) (omega (arith, e))) (λ e. spaced w u i 7 h (omega arith) (inr d.2) (omega (arith, e)))

  state : state_of three u ≡ 1
  state = get_or-set_other two (u * 8 + 7) (u * 8) n 0 (omega arith) ∙ get_or-set_other one (u * 8 + 1 + k) (u * 8) a 0 (omega arith) ∙ get_or-set_same xs (u * 8) 1 0 (omega arith)

  count : count_of three k u ≡ a
  count = get_or-set_other two (u * 8 + 7) (u * 8 + 1 + k) n 0 (omega arith) ∙ get_or-set_same one (u * 8 + 1 + k) a 0 (omega (arith, length-set xs (u * 8) 1))

  pair_count_lem : pair_count_of three u ≡ n
  pair_count_lem = get_or-set_same two (u * 8 + 7) n 0 (omega (arith, length-set xs (u * 8) 1, length-set one (u * 8 + 1 + k) a))

  pub written : Written xs three k u (a, n)
  written = record {
    size = length-set two (u * 8 + 7) n ∙ length-set one (u * 8 + 1 + k) a ∙ length-set xs (u * 8) 1;
    label = stage_labelled three k u (omega (arith, state)) ∙ (λ i. some (count i, pair_count_lem i));
    others = λ w d. stage_alike xs k w three (first w d) (second w d) (unchanged w 7 (omega arith) (inl d));
    counts = λ i w h. kept_count i w h;
  }
    where
      first : (w : ℕ) → w ≢ u → state_of three w ≡ state_of xs w
      first w d = let q : w * 8 + 0 ≡ w * 8 = omega arith in rw q at (unchanged w 0 (omega arith) (inl d))

      at : (i w : ℕ) → i < 7 → (w ≢ u) ⊎ ((1 + i ≢ 0) × (1 + i ≢ 1 + k) × (1 + i ≢ 7)) → count_of three i w ≡ count_of xs i w
      at i w h d = let q : w * 8 + (1 + i) ≡ w * 8 + 1 + i = omega arith in rw q at (unchanged w (1 + i) (omega arith) d)

      second : (w : ℕ) → w ≢ u → count_of three k w ≡ count_of xs k w
      second w d = at k w (omega arith) (inl d)

      kept_count : (i w : ℕ) → i < k → count_of three i w ≡ count_of xs i w
      kept_count i w h = at i w (omega arith) (inr (omega arith, omega arith, omega arith))

-- ---- lowering

module _ {xs : List ℕ} {k u : ℕ} (c : Ranked 1) where
  pub lowered_kept : AtMost (Less 1) (stage_label xs k u) c → Lowered xs xs k u c false
  lowered_kept m = record { size = refl; counts = λ i w h. refl; label = record { here = kept m refl; others = λ w n. refl }; same = λ _. refl; less = λ q. absurd (false≢true q) }

  pub lowered_written : {ys : List ℕ} → Above (Less 1) (stage_label xs k u) c → Written xs ys k u c → c.0 < 65536 → c.1 < 65536 → Lowered xs ys k u c true
  lowered_written {ys} a W h l = record {
    size = W.size;
    counts = W.counts;
    label = record { here = lowered a W.label; others = W.others };
    same = λ q. absurd (false≢true (sym q));
    less = λ _. total_less (stage_label xs k) (stage_label ys k) u (rw W.label (height_less (stage_label xs k u) c a h l)) W.others;
  }

-- ---- one arc

module _ {xs : List ℕ} {u v m k : ℕ} (Q : ArcPre xs u v m k) (n : state_of xs v ≢ 0) where
  pub arc_pairs : 1 + pair_count_of xs v < 65536
  arc_pairs = omega (arith, (Q.fits (count_of xs k v, pair_count_of xs v) (stage_labelled xs k v n)).1)

  pub arc_count_lem : {a : ℕ} → a ≡ count_at 6 k (marks_cost m) → a + count_of xs k v < 65536
  arc_count_lem e = omega (arith, e, nibbles_most 6 k m Q.marks, (Q.fits (count_of xs k v, pair_count_of xs v) (stage_labelled xs k v n)).0)

module _ {xs ys : List ℕ} {u v m k : ℕ} {r : Bool} where
  pub arc_lowered : {a : ℕ} → a ≡ count_at 6 k (marks_cost m) → state_of xs v ≢ 0 → Below (Makes xs u m (counts_of xs v)) k → Lowered xs ys k u (a + count_of xs k v, 1 + pair_count_of xs v) r → ArcTried xs ys u v m k r
  arc_lowered e n f L =
      ArcTried.lowered (count_of xs k v, pair_count_of xs v) (stage_labelled xs k v n) f (subst (λ (z : ℕ). Lowered xs ys k u (z + count_of xs k v, 1 + pair_count_of xs v) r) e L)
