-- Marks by weights: what they count in high and low is their weighted sum.
use Rattle.std.specs.Prelude.{◌≡◌, ◌∷◌, ◌+◌, ◌*◌, ◌/◌}
use Rattle.basics.specs.Words.{refl, ◌∙◌, ap, List, [], ℕ, suc, arith, get_or, mul_comm, mul-zero}
use Rattle.cells.specs.Cells.{high_of, low_of}
use Rattle.cells.specs.Columns.{weighed}
use Rattle.cells.specs.Trying.{cell_price}
use Rattle.product.specs.Weights.{weighted_sum}
use Rattle.product.specs.WeightedPaths.{by_weights}
use Rattle.weighted.specs.WeighsBy.{WeighsBy}

weighed_zero : (w : ℕ → ℕ) → ((m : ℕ) → w m ≡ 0) → (m : ℕ) (xs : List ℕ) → weighed w m xs ≡ 0
unfolding weighed
weighed_zero w z m [] = refl
weighed_zero w z m (x ∷ xs) = omega (arith, ap (λ (k : ℕ). x * k) (z m), mul-zero x, weighed_zero w z (suc m) xs)

-- the weights of the machines from m on
weighed_sum : (w : ℕ → ℕ) (m : ℕ) (weights xs : List ℕ) → ((k : ℕ) → w (m + k) ≡ get_or weights k 0) → weighed w m xs ≡ weighted_sum weights xs
unfolding weighed weighted_sum
weighed_sum w m [] xs h = none m xs h
  where
    none : (m : ℕ) (xs : List ℕ) → ((k : ℕ) → w (m + k) ≡ 0) → weighed w m xs ≡ 0
    none m [] h = refl
    none m (x ∷ xs) h =
        let z : w m ≡ 0 = ap w (let q : m ≡ m + 0 = omega arith in q) ∙ h 0 in
        omega (arith, ap (λ (k : ℕ). x * k) z, mul-zero x, none (suc m) xs (λ k. ap w (let q : suc m + k ≡ m + suc k = omega arith in q) ∙ h (suc k)))
weighed_sum w m (n ∷ weights) [] h = refl
weighed_sum w m (n ∷ weights) (x ∷ xs) h =
    let z : w m ≡ n = ap w (let q : m ≡ m + 0 = omega arith in q) ∙ h 0 in
    omega (arith, ap (λ (k : ℕ). x * k) z, mul_comm x n, weighed_sum w (suc m) weights xs (λ k. ap w (let q : suc m + k ≡ m + suc k = omega arith in q) ∙ h (suc k)))

module _ {weights ws : List ℕ} (W : WeighsBy weights ws) where
  pub high_sum : (xs : List ℕ) → weighed (λ m. high_of ws m / 256) 0 xs ≡ weighted_sum weights xs
  high_sum xs = weighed_sum (λ m. high_of ws m / 256) 0 weights xs (λ k. omega (arith, W.high (0 + k), ap (λ (m : ℕ). get_or weights m 0) (let q : 0 + k ≡ k = omega arith in q)))

  pub low_sum : (xs : List ℕ) → weighed (low_of ws) 0 xs ≡ 0
  low_sum xs = weighed_zero (low_of ws) W.low 0 xs

  -- marks and a number of pairs cost the same
  pub weights_price : (xs : List ℕ) (n : ℕ) → (cell_price ws).of xs n ≡ (by_weights weights).of xs n
  weights_price xs n =
      let p = high_sum xs in
      let q : weighed (low_of ws) 0 xs + n ≡ n = omega (arith, low_sum xs) in
      λ i. (p i, q i)
