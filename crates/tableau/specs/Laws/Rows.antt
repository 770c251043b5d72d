-- The first number below a bound that passes. Assumes nothing.
use Rattle.std.specs.Prelude.{◌≡◌, ◌∷◌, ◌<◌}
use Rattle.basics.proofs.Words.{refl, Bool, true, false, [], Option, some, none, ℕ, zero, suc, arith, first_that, numbers_below, first_passes, first_member, first_misses, numbers_member, member_numbers}
use Rattle.ranking.specs.Lemmas.Searches.{first_before_lem}

-- i is below n and passes, and none before it does
pub record FirstBelow (f : ℕ → Bool) (n i : ℕ) : Type 0 where
  pub below : i < n
  pub passes : f i ≡ true
  pub earlier : (j : ℕ) → j < i → f j ≡ false

module _ (f : ℕ → Bool) where
  pub none_passes : (n : ℕ) → first_that f (numbers_below n) ≡ none → (j : ℕ) → j < n → f j ≡ false
  none_passes n e j h = first_misses f e (member_numbers n j h)

  before_first : (n i : ℕ) → first_that f (numbers_below n) ≡ some i → (j : ℕ) → j < i → f j ≡ false
  unfolding numbers_below
  before_first zero i e j h = let m = numbers_member zero (first_member f (numbers_below zero) e) in absurd (omega arith)
  before_first (suc n) i e j h = go (first_that f (numbers_below n)) refl (λ k q. before_first n k q)
    where
      go : (o : Option ℕ) → first_that f (numbers_below n) ≡ o → ((k : ℕ) → first_that f (numbers_below n) ≡ some k → (j : ℕ) → j < k → f j ≡ false) → f j ≡ false
      go (some k) q rec =
          let z : k ≡ i = cc (first_before_lem f (numbers_below n) (n ∷ []) q, e) in
          rec k q j (omega arith)
      go none q rec = let m = numbers_member (suc n) (first_member f (numbers_below (suc n)) e) in none_passes n q j (omega arith)

  pub first_below : (n i : ℕ) → first_that f (numbers_below n) ≡ some i → FirstBelow f n i
  first_below n i e = record {
    below = numbers_member n (first_member f (numbers_below n) e);
    passes = first_passes f (numbers_below n) e;
    earlier = before_first n i e;
  }
