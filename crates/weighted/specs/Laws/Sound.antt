-- Accepted weights.
use Rattle.std.specs.Prelude.{◌≡◌, ◌≤◌, ◌<◌}
use Rattle.basics.proofs.Words.{true, List, ℕ, arith, length, get_or, List·getD-eq-default, eqb, leb, dec_lt, all_of, left, right, all_at}
use Rattle.std.proofs.Common.{eqb-true, leb-true}
use Rattle.product.specs.Weights.{sound_weights}

pub record Sound (K : ℕ) (weights : List ℕ) : Type 0 where
  pub count : length weights ≡ K
  pub most : (m : ℕ) → get_or weights m 0 ≤ 4000000000

pub sound_are : (K : ℕ) (weights : List ℕ) → sound_weights K weights ≡ true → Sound K weights
unfolding sound_weights
sound_are K weights s = record { count = eqb-true (length weights) K (left (eqb (length weights) K) (all_of (λ w. leb w 4000000000) weights) s); most = λ m. most m (dec_lt m (length weights)) }
  where
    most : (m : ℕ) → Dec (m < length weights) → get_or weights m 0 ≤ 4000000000
    most m (yes h) = leb-true (get_or weights m 0) 4000000000 (all_at (λ w. leb w 4000000000) weights 0 (right (eqb (length weights) K) (all_of (λ w. leb w 4000000000) weights) s) m h)
    most m (no h) = omega (arith, List·getD-eq-default weights 0 {n = m} (omega arith))
