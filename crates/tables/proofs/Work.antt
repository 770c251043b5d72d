-- Laws of the work slice: what a node's numbers say, and what writing them does.
use Rattle.std.specs.Prelude.{◌≡◌, ◌∷◌, ◌⊎◌, ◌≢◌, ◌+◌, ◌*◌, ◌≤◌, ◌<◌}
use Rattle.basics.proofs.Words.{refl, sym, ◌∙◌, ap, Bool, cond, not, List, [], none, some, Option·none-ne-some, inl, inr, ℕ, zero, suc, arith, length, get_or, set, length-set, List·getD-eq-default, eqb, get_or-set_same, get_or-set_other, ℕ_discrete, dec_lt, eq-eqb, ne_eqb, eqb-true, eqb-false, not-true, not-false}
use Rattle.paths.specs.Ranked.{Ranked}
use Rattle.tables.specs.Work.{state_of, cost_at, label_of, AlikeAt, Reached, Stored}

-- ---- what a label is

module _ (xs : List ℕ) (u : ℕ) where
  pub labelled : state_of xs u ≢ 0 → label_of xs u ≡ some (cost_at xs u)
  unfolding label_of
  labelled n = ap (λ (b : Bool). cond b none (some (cost_at xs u))) (ne_eqb (state_of xs u) 0 n)

  pub unlabelled : state_of xs u ≡ 0 → label_of xs u ≡ none
  unfolding label_of
  unlabelled e = ap (λ (b : Bool). cond b none (some (cost_at xs u))) (eq-eqb (state_of xs u) 0 e)

  -- whether u has one
  pub reached_test : Reached xs u (not (eqb (state_of xs u) 0))
  reached_test = record {
    label = λ q. labelled (eqb-false (state_of xs u) 0 (not-true (eqb (state_of xs u) 0) q));
    unlabelled = λ q. unlabelled (eqb-true (state_of xs u) 0 (not-false (eqb (state_of xs u) 0) q));
  }

  -- u has the label c
  pub record Holds (c : Ranked 6) : Type 0 where
    pub state : state_of xs u ≢ 0
    pub cost : cost_at xs u ≡ c

  pub holds : (c : Ranked 6) → label_of xs u ≡ some c → Holds c
  holds c l = go (ℕ_discrete (state_of xs u) 0)
    where
      go : Dec (state_of xs u ≡ 0) → Holds c
      go (yes e) = absurd (Option·none-ne-some c (sym (unlabelled e) ∙ l))
      go (no n) = let q : cost_at xs u ≡ c = cc (labelled n, l) in record { state = n; cost = q }

  -- past the end there is no label
  pub past_end : length xs ≤ u * 8 → label_of xs u ≡ none
  past_end h = unlabelled (List·getD-eq-default xs 0 h)

pub label_alike : {xs ys : List ℕ} {w : ℕ} → AlikeAt xs ys w → label_of ys w ≡ label_of xs w
unfolding label_of
label_alike a = λ i. cond (eqb (a.state i) 0) none (some (a.cost i))

-- a node none of whose numbers was changed
pub alike_numbers : (xs ys : List ℕ) (w : ℕ) → ((j : ℕ) → w * 8 ≤ j → j < w * 8 + 8 → get_or ys j 0 ≡ get_or xs j 0) → AlikeAt xs ys w
alike_numbers xs ys w h =
    let a = h (w * 8 + 1) (omega arith) (omega arith) in
    let b = h (w * 8 + 2) (omega arith) (omega arith) in
    let c = h (w * 8 + 3) (omega arith) (omega arith) in
    let d = h (w * 8 + 4) (omega arith) (omega arith) in
    let e = h (w * 8 + 5) (omega arith) (omega arith) in
    let f = h (w * 8 + 6) (omega arith) (omega arith) in
    let g = h (w * 8 + 7) (omega arith) (omega arith) in
    record { state = h (w * 8) (omega arith) (omega arith); cost = λ i. (a i, (b i, (c i, (d i, (e i, (f i, g i)))))) }

-- ---- numbers written one after the other, from the place at + k on

unfoldable pub written : List ℕ → ℕ → ℕ → List ℕ → List ℕ
written xs at k [] = xs
written xs at k (v ∷ vs) = written (set xs (at + k) v) at (k + 1) vs

written_length : (vs xs : List ℕ) (at k : ℕ) → length (written xs at k vs) ≡ length xs
unfolding written
written_length [] xs at k = refl
written_length (v ∷ vs) xs at k = written_length vs (set xs (at + k) v) at (k + 1) ∙ length-set xs (at + k) v

written_other : (vs xs : List ℕ) (at k j : ℕ) → (j < at + k) ⊎ (at + k + length vs ≤ j) → get_or (written xs at k vs) j 0 ≡ get_or xs j 0
unfolding written
written_other [] xs at k j h = refl
written_other (v ∷ vs) xs at k j (inl h) = written_other vs (set xs (at + k) v) at (k + 1) j (inl (omega arith)) ∙ get_or-set_other xs (at + k) j v 0 (omega arith)
written_other (v ∷ vs) xs at k j (inr h) = written_other vs (set xs (at + k) v) at (k + 1) j (inr (omega arith)) ∙ get_or-set_other xs (at + k) j v 0 (omega arith)

written_at : (vs xs : List ℕ) (at k i : ℕ) → i < length vs → at + k + length vs ≤ length xs → get_or (written xs at k vs) (at + (k + i)) 0 ≡ get_or vs i 0
unfolding written
written_at [] xs at k i h r = absurd (omega arith)
written_at (v ∷ vs) xs at k zero h r =
    let q : at + (k + 0) ≡ at + k = omega arith in
    rw q (written_other vs (set xs (at + k) v) at (k + 1) (at + k) (inl (omega arith)) ∙ get_or-set_same xs (at + k) v 0 (omega arith))
written_at (v ∷ vs) xs at k (suc i) h r =
    let q : at + (k + suc i) ≡ at + (k + 1 + i) = omega arith in
    rw q (written_at vs (set xs (at + k) v) at (k + 1) i (omega arith) (rw length-set (omega arith)))

-- ---- a label stored

module _ (xs : List ℕ) (u : ℕ) (room : u * 8 + 7 < length xs) (a b c d e f n : ℕ) where
  abbrev numbers : List ℕ
  numbers = a ∷ b ∷ c ∷ d ∷ e ∷ f ∷ n ∷ []

  pub stored : Stored xs (written (set xs (u * 8) 1) (u * 8) 1 (a ∷ b ∷ c ∷ d ∷ e ∷ f ∷ n ∷ [])) u (a, (b, (c, (d, (e, (f, n))))))
  stored = record {
    size = written_length numbers one (u * 8) 1 ∙ length-set xs (u * 8) 1;
    state = written_other numbers one (u * 8) 1 (u * 8) (inl (omega arith)) ∙ get_or-set_same xs (u * 8) 1 0 (omega arith);
    cost = λ i. (at 0 (omega arith) i, (at 1 (omega arith) i, (at 2 (omega arith) i, (at 3 (omega arith) i, (at 4 (omega arith) i, (at 5 (omega arith) i, at 6 (omega arith) i))))));
    others = λ w k. alike_numbers xs ys w (λ j l m. other w j k l m (dec_lt w u));
  }
    where
      one : List ℕ
      one = set xs (u * 8) 1

      ys : List ℕ
      ys = written (set xs (u * 8) 1) (u * 8) 1 numbers

      at : (i : ℕ) → i < 7 → get_or (written (set xs (u * 8) 1) (u * 8) 1 numbers) (u * 8 + (1 + i)) 0 ≡ get_or numbers i 0
      at i h = written_at numbers one (u * 8) 1 i h (rw length-set (omega arith))

      other : (w j : ℕ) → w ≢ u → w * 8 ≤ j → j < w * 8 + 8 → Dec (w < u) → get_or ys j 0 ≡ get_or xs j 0
      other w j k l m (yes d) = written_other numbers one (u * 8) 1 j (inl (omega arith)) ∙ get_or-set_other xs (u * 8) j 1 0 (omega arith)
      other w j k l m (no d) = written_other numbers one (u * 8) 1 j (inr (omega arith)) ∙ get_or-set_other xs (u * 8) j 1 0 (omega arith)
