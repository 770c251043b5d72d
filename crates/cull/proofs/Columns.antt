-- The front of a new array of columns. Assumes nothing.
use Rattle.std.specs.Prelude.{◌≡◌, ◌∷◌, ◌<◌, ◌≤◌}
use Rattle.basics.specs.Words.{List, [], ℕ, zero, suc, arith, length, get_or, take, replicate, length-replicate, get_or-replicate, List·getD-eq-default, length-take-le, dec_lt}
use Rattle.columns.specs.Filling.{Small}

small_take : (n : ℕ) (l : List ℕ) → Small l → Small (take n l)
small_take zero l h i = omega arith
small_take (suc n) [] h i = omega arith
small_take (suc n) (x ∷ l) h zero = h 0
small_take (suc n) (x ∷ l) h (suc i) = small_take n l (λ j. h (suc j)) i

pub columns_small : (n : ℕ) → Small (take n (replicate 2600 65535))
columns_small n = small_take n (replicate {A = ℕ} 2600 65535) (λ i. at i (dec_lt i 2600))
  where
    at : (i : ℕ) → Dec (i < 2600) → get_or (replicate {A = ℕ} 2600 65535) i 0 ≤ 65535
    at i (yes h) = omega (arith, get_or-replicate {A = ℕ} 2600 i 65535 0 h)
    at i (no h) = omega (arith, List·getD-eq-default (replicate {A = ℕ} 2600 65535) 0 {n = i} (omega (arith, length-replicate {A = ℕ} 2600 65535)))

pub columns_length : (n : ℕ) → n ≤ 2600 → length (take n (replicate {A = ℕ} 2600 65535)) ≡ n
columns_length n h = length-take-le n (replicate {A = ℕ} 2600 65535) (omega (arith, length-replicate {A = ℕ} 2600 65535))
