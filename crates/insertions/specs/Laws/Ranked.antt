-- Marks times the weights of machines in ranked order: place by place.
use Rattle.std.specs.Prelude.{◌≡◌, ◌∷◌, ◌+◌, ◌*◌, ◌<◌, ◌≤◌}
use Rattle.basics.specs.Words.{refl, ◌∙◌, true, false, cond, List, [], ℕ, zero, suc, arith, length, get_or, eqb, mul-add}
use Rattle.std.proofs.Common.{eq-eqb, ne_eqb, subst}
use Rattle.cells.specs.Cells.{high_of, low_of}
use Rattle.cells.specs.Columns.{weighed}
use Rattle.settling.specs.Prices.{ranked_highs, ranked_lows}
use Rattle.insertions.specs.RankedWeights.{weight_by, RankedWeights}

-- the marks of the machine at each place, times the number at that place
unfoldable pub priced_by : (order numbers marks : List ℕ) → ℕ
priced_by [] ns marks = 0
priced_by (a ∷ r) [] marks = 0
priced_by (a ∷ r) (n ∷ ns) marks = get_or marks a 0 * n + priced_by r ns marks

-- ---- weights are added up

weighed_none : (m : ℕ) (ks : List ℕ) → weighed (λ _. 0) m ks ≡ 0
unfolding weighed
weighed_none m [] = refl
weighed_none m (k ∷ ks) = omega (arith, weighed_none (suc m) ks)

weighed_sum : (v w : ℕ → ℕ) (m : ℕ) (ks : List ℕ) → weighed (λ n. v n + w n) m ks ≡ weighed v m ks + weighed w m ks
unfolding weighed
weighed_sum v w m [] = refl
weighed_sum v w m (k ∷ ks) = omega (arith, mul-add k (v m) (w m), weighed_sum v w (suc m) ks)

weighed_same : (v w : ℕ → ℕ) (m : ℕ) (ks : List ℕ) → ((n : ℕ) → n < m + length ks → v n ≡ w n) → weighed v m ks ≡ weighed w m ks
unfolding weighed
weighed_same v w m [] h = refl
weighed_same v w m (k ∷ ks) h =
    let p = h m (omega arith) in
    let q = weighed_same v w (suc m) ks (λ n l. h n (omega arith)) in
    λ i. k * p i + q i

-- the weight n of the machine m + a alone
weighed_one : (m a n : ℕ) (ks : List ℕ) → weighed (λ k. cond (eqb (m + a) k) n 0) m ks ≡ get_or ks a 0 * n
unfolding weighed
weighed_one m a n [] = omega arith
weighed_one m zero n (k ∷ ks) =
    let e : eqb (m + 0) m ≡ true = eq-eqb (m + 0) m (omega arith) in
    let q : weighed (λ k. cond (eqb (m + 0) k) n 0) (suc m) ks ≡ 0 = before (suc m) ks (omega arith) in
    rw e (omega (arith, q))
  where
    before : (j : ℕ) (ks : List ℕ) → m < j → weighed (λ k. cond (eqb (m + 0) k) n 0) j ks ≡ 0
    before j [] h = refl
    before j (k ∷ ks) h = let e : eqb (m + 0) j ≡ false = ne_eqb (m + 0) j (omega arith) in rw e (omega (arith, before (suc j) ks (omega arith)))
weighed_one m (suc a) n (k ∷ ks) =
    let e : eqb (m + suc a) m ≡ false = ne_eqb (m + suc a) m (omega arith) in
    let d : suc m + a ≡ m + suc a = omega arith in
    let q = subst (λ (j : ℕ). weighed (λ k. cond (eqb j k) n 0) (suc m) ks ≡ get_or ks a 0 * n) d (weighed_one (suc m) a n ks) in
    rw e (omega (arith, q))

pub weighed_by : (order numbers marks : List ℕ) → weighed (weight_by order numbers) 0 marks ≡ priced_by order numbers marks
unfolding weight_by priced_by
weighed_by [] ns marks = weighed_none 0 marks
weighed_by (a ∷ r) [] marks = weighed_none 0 marks
weighed_by (a ∷ r) (n ∷ ns) marks =
    let z : 0 + a ≡ a = omega arith in
    let p : weighed (λ m. cond (eqb a m) n 0) 0 marks ≡ get_or marks a 0 * n = rw z at (weighed_one 0 a n marks) in
    omega (arith, weighed_sum (λ m. cond (eqb a m) n 0) (weight_by r ns) 0 marks, p, weighed_by r ns marks)

priced_six : (order : List ℕ) (n₀ n₁ n₂ n₃ n₄ n₅ : ℕ) (marks : List ℕ) → length order ≡ 6
    → priced_by order (n₀ ∷ n₁ ∷ n₂ ∷ n₃ ∷ n₄ ∷ n₅ ∷ []) marks
    ≡ get_or marks (get_or order 0 0) 0 * n₀
    + (get_or marks (get_or order 1 0) 0 * n₁
    + (get_or marks (get_or order 2 0) 0 * n₂ + (get_or marks (get_or order 3 0) 0 * n₃ + (get_or marks (get_or order 4 0) 0 * n₄ + get_or marks (get_or order 5 0) 0 * n₅))))
unfolding priced_by
priced_six (a ∷ b ∷ c ∷ d ∷ e ∷ f ∷ []) n₀ n₁ n₂ n₃ n₄ n₅ marks h = omega arith
priced_six [] n₀ n₁ n₂ n₃ n₄ n₅ marks h = absurd (omega arith)
priced_six (a ∷ []) n₀ n₁ n₂ n₃ n₄ n₅ marks h = absurd (omega arith)
priced_six (a ∷ b ∷ []) n₀ n₁ n₂ n₃ n₄ n₅ marks h = absurd (omega arith)
priced_six (a ∷ b ∷ c ∷ []) n₀ n₁ n₂ n₃ n₄ n₅ marks h = absurd (omega arith)
priced_six (a ∷ b ∷ c ∷ d ∷ []) n₀ n₁ n₂ n₃ n₄ n₅ marks h = absurd (omega arith)
priced_six (a ∷ b ∷ c ∷ d ∷ e ∷ []) n₀ n₁ n₂ n₃ n₄ n₅ marks h = absurd (omega arith)
priced_six (a ∷ b ∷ c ∷ d ∷ e ∷ f ∷ g ∷ r) n₀ n₁ n₂ n₃ n₄ n₅ marks h = absurd (omega arith)

-- ---- the two numbers of marks of at most six machines, in ranked order

module _ {places ws : List ℕ} (R : RankedWeights places ws) (size : length places ≡ 6) (marks : List ℕ) (few : length marks ≤ 6) where
  pub ranked_high : weighed (high_of ws) 0 marks ≡ get_or marks (get_or places 0 0) 0 * 1099511627776 + (get_or marks (get_or places 1 0) 0 * 16777216 + get_or marks (get_or places 2 0) 0 * 256)
  ranked_high = weighed_same (high_of ws) (weight_by places ranked_highs) 0 marks (λ n h. R.high n (omega arith)) ∙ weighed_by places ranked_highs marks ∙ priced_six places 1099511627776 16777216 256 0 0 0 marks size ∙ omega arith

  pub ranked_low : weighed (low_of ws) 0 marks ≡ get_or marks (get_or places 3 0) 0 * 281474976710656 + (get_or marks (get_or places 4 0) 0 * 4294967296 + get_or marks (get_or places 5 0) 0 * 65536)
  ranked_low = weighed_same (low_of ws) (weight_by places ranked_lows) 0 marks (λ n h. R.low n (omega arith)) ∙ weighed_by places ranked_lows marks ∙ priced_six places 0 0 0 281474976710656 4294967296 65536 marks size ∙ omega arith
