-- How the set of the machines where one profile has fewer grows. Assumes nothing.
use Rattle.std.specs.Prelude.{◌≡◌, ◌+◌, ◌^◌, ◌<◌, ◌≤◌}
use Rattle.basics.proofs.Words.{List, ℕ, get_or, ltb, add-one, set_start, set_bound, set_grows, set_stays}
use Rattle.std.proofs.Common.{lt-ltb, le-ltb}
use Rattle.ranking.specs.Conditions.{fewer_in}

module _ (a b : List ℕ) where
  pub fewer_none : fewer_in 0 a b ≡ 0
  fewer_none = set_start (λ i. ltb (get_or a i 0) (get_or b i 0))

  pub fewer_bound : (n : ℕ) → fewer_in n a b < 2 ^ n
  fewer_bound n = set_bound (λ i. ltb (get_or a i 0) (get_or b i 0)) n

  pub fewer_grows : (n : ℕ) → get_or a n 0 < get_or b n 0 → fewer_in (n + 1) a b ≡ fewer_in n a b + 2 ^ n
  fewer_grows n h = rw add-one (set_grows (λ i. ltb (get_or a i 0) (get_or b i 0)) n (lt-ltb _ _ h))

  pub fewer_stays : (n : ℕ) → get_or b n 0 ≤ get_or a n 0 → fewer_in (n + 1) a b ≡ fewer_in n a b
  fewer_stays n h = rw add-one (set_stays (λ i. ltb (get_or a i 0) (get_or b i 0)) n (le-ltb _ _ h))
