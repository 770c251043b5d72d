-- Laws of the searches over the numbers below a bound, and of the list of those numbers. Assumes nothing.
use mathlib.Core.Path.{◌≡◌, refl, sym, ◌∙◌}
use mathlib.Core.Bool.{Bool, true, false, ◌||◌, or-true}
use mathlib.Core.List.Memᴰ
use mathlib.Core.List.{[], ◌∷◌, ◌++◌, Memᴰ}
use mathlib.Core.Logic.{◌⊎◌, inl, inr}
use Prim.Native.Nat.{ℕ, zero, suc, ◌+◌, ◌<◌}
use native.Mathlib.Numerals.{add-one}
use native.Mathlib.Omega.{arith}
use lib.Dec.{eqb}
use lib.ListN.{length, get_or, length-append, get_or-append}
use lib.Seq.{get_or_at}
use borrow.Author.Tests.{eqb-true, eqb-false}
use Rattle.basics.specs.Search.{every_below, some_below, numbers_below}
use Rattle.basics.proofs.Bools.{clash, both, left, right}

-- a number below n + 1 is below n, or n
below_suc : {n k : ℕ} → k < suc n → (k < n) ⊎ (k ≡ n)
below_suc {n} {k} h = go (eqb k n) refl
  where
    go : (b : Bool) → eqb k n ≡ b → (k < n) ⊎ (k ≡ n)
    go true e = inr (eqb-true k n e)
    go false e = inl (omega (arith, eqb-false k n e))

module _ (f : ℕ → Bool) where
  -- every number below n passes
  pub every_at : (n : ℕ) → every_below f n ≡ true → (k : ℕ) → k < n → f k ≡ true
  unfolding every_below
  every_at zero t k h = absurd (omega arith)
  every_at (suc n) t k h = go (every_at n (left (every_below f n) (f n) t) k) (below_suc h)
    where
      go : (k < n → f k ≡ true) → (k < n) ⊎ (k ≡ n) → f k ≡ true
      go r (inl q) = r q
      go r (inr e) = rw e (right (every_below f n) (f n) t)

  pub each_below : (n : ℕ) → ((k : ℕ) → k < n → f k ≡ true) → every_below f n ≡ true
  unfolding every_below
  each_below zero h = refl
  each_below (suc n) h = both (each_below n (λ k q. h k (omega arith))) (h n (omega arith))

  pub one_below_fails : (n k : ℕ) → k < n → f k ≡ false → every_below f n ≡ false
  one_below_fails n k h t = go (every_below f n) refl
    where
      go : (b : Bool) → every_below f n ≡ b → every_below f n ≡ false
      go true e = absurd (clash (every_at n e k h) t)
      go false e = e

  -- how a loop that counts up goes on
  pub every_start : every_below f 0 ≡ true
  unfolding every_below
  every_start = refl

  pub every_next : (n : ℕ) → every_below f n ≡ true → f n ≡ true → every_below f (n + 1) ≡ true
  unfolding every_below
  every_next n h t = rw add-one (both h t)

  -- some number below n passes
  pub found_below : (n k : ℕ) → k < n → f k ≡ true → some_below f n ≡ true
  unfolding some_below
  found_below zero k h t = absurd (omega arith)
  found_below (suc n) k h t = go (λ q. found_below n k q t) (below_suc h)
    where
      go : (k < n → some_below f n ≡ true) → (k < n) ⊎ (k ≡ n) → (some_below f n || f n) ≡ true
      go r (inl q) = rw (r q)
      go r (inr e) = let u : f n ≡ true = rw e at t in rw u (or-true (some_below f n))

  pub finds_below : (n : ℕ) → some_below f n ≡ true → (k : ℕ) × (k < n) × (f k ≡ true)
  unfolding some_below
  finds_below zero t = absurd (clash t refl)
  finds_below (suc n) t = go (some_below f n) refl (finds_below n)
    where
      go : (b : Bool) → some_below f n ≡ b → (some_below f n ≡ true → (k : ℕ) × (k < n) × (f k ≡ true)) → (k : ℕ) × (k < suc n) × (f k ≡ true)
      go true e r = let q = r e in (q.0, omega arith, q.2)
      go false e r = (n, omega arith, rw e at t)

-- the numbers below n, in order
pub length_numbers : (n : ℕ) → length (numbers_below n) ≡ n
unfolding numbers_below
length_numbers zero = refl
length_numbers (suc n) = rw (length-append, length_numbers n) (omega arith)

pub number_at : (n i d : ℕ) → i < n → get_or (numbers_below n) i d ≡ i
unfolding numbers_below
number_at zero i d h = absurd (omega arith)
number_at (suc n) i d h = go (number_at n i d) (below_suc h)
  where
    go : (i < n → get_or (numbers_below n) i d ≡ i) → (i < n) ⊎ (i ≡ n) → get_or (numbers_below n ++ (n ∷ [])) i d ≡ i
    go r (inl q) = get_or-append (numbers_below n) (n ∷ []) d i (omega (arith, length_numbers n)) ∙ r q
    go r (inr e) = get_or_at (numbers_below n) n [] d i (length_numbers n ∙ sym e) ∙ sym e

pub numbers_member : {k : ℕ} (n : ℕ) → Memᴰ k (numbers_below n) → k < n
unfolding numbers_below
numbers_member zero m = absurd (Memᴰ.not-nil m)
numbers_member {k} (suc n) m = go (numbers_member n) (Memᴰ.append_cases (numbers_below n) m)
  where
    go : (Memᴰ k (numbers_below n) → k < n) → Memᴰ k (numbers_below n) ⊎ Memᴰ k (n ∷ []) → k < suc n
    go r (inl q) = let h = r q in omega arith
    go r (inr q) = let e = Memᴰ.eq_of_singleton q in omega arith

pub member_numbers : (n k : ℕ) → k < n → Memᴰ k (numbers_below n)
unfolding numbers_below
member_numbers zero k h = absurd (omega arith)
member_numbers (suc n) k h = go (member_numbers n k) (below_suc h)
  where
    go : (k < n → Memᴰ k (numbers_below n)) → (k < n) ⊎ (k ≡ n) → Memᴰ k (numbers_below n ++ (n ∷ []))
    go r (inl q) = Memᴰ.append_left (n ∷ []) (r q)
    go r (inr e) = Memᴰ.append_right (numbers_below n) (Memᴰ.head e)
