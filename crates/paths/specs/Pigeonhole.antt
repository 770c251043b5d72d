-- The pigeonhole principle: there are at most n different numbers below n.
use Rattle.std.specs.Prelude.{◌≡◌, refl, ◌≢◌, List, [], ◌∷◌, ℕ, zero, suc, ◌≤◌, ◌<◌, length}
use Rattle.std.proofs.Common.{sym, not-suc-le-zero, arith}
use Rattle.std.proofs.Math.Decide.{ℕ_discrete}

-- x is not in the list
abbrev pub NotIn : {A : Type 0} → A → List A → Type 0
NotIn x [] = Unit {0}
NotIn x (y ∷ ys) = (x ≢ y) × NotIn x ys

-- nothing is in the list twice
abbrev pub Distinct : {A : Type 0} → List A → Type 0
Distinct [] = Unit {0}
Distinct (x ∷ xs) = NotIn x xs × Distinct xs

-- every number of the list is below n
abbrev pub AllBelow : ℕ → List ℕ → Type 0
AllBelow n [] = Unit {0}
AllBelow n (x ∷ xs) = (x < n) × AllBelow n xs

-- the list without the number n
abbrev skip : {x n : ℕ} → Dec (x ≡ n) → List ℕ → List ℕ
skip (yes e) r = r
skip {x} (no e) r = x ∷ r

without : ℕ → List ℕ → List ℕ
without n [] = []
without n (x ∷ xs) = skip (ℕ_discrete x n) (without n xs)

without_notin : (n : ℕ) (xs : List ℕ) → NotIn n xs → without n xs ≡ xs
unfolding without
without_notin n [] h = refl
without_notin n (x ∷ xs) h = go (ℕ_discrete x n) (without_notin n xs h.1)
  where
    go : (d : Dec (x ≡ n)) → without n xs ≡ xs → skip d (without n xs) ≡ x ∷ xs
    go (yes e) r = absurd (h.0 (sym e))
    go (no e) r = cc

without_length : (n : ℕ) (xs : List ℕ) → Distinct xs → length xs ≤ suc (length (without n xs))
unfolding without
without_length n [] d = omega arith
without_length n (x ∷ xs) d = go (ℕ_discrete x n) (without_length n xs d.1)
  where
    go : (e : Dec (x ≡ n)) → length xs ≤ suc (length (without n xs)) → length (x ∷ xs) ≤ suc (length (skip e (without n xs)))
    go (yes e) r = rw (without_notin n xs (rw e at d.0)) (omega arith)
    go (no e) r = omega arith

notin_without : (m n : ℕ) (xs : List ℕ) → NotIn m xs → NotIn m (without n xs)
unfolding without
notin_without m n [] h = tt
notin_without m n (x ∷ xs) h = go (ℕ_discrete x n) (notin_without m n xs h.1)
  where
    go : (e : Dec (x ≡ n)) → NotIn m (without n xs) → NotIn m (skip e (without n xs))
    go (yes e) r = r
    go (no e) r = (h.0, r)

distinct_without : (n : ℕ) (xs : List ℕ) → Distinct xs → Distinct (without n xs)
unfolding without
distinct_without n [] d = tt
distinct_without n (x ∷ xs) d = go (ℕ_discrete x n) (distinct_without n xs d.1)
  where
    go : (e : Dec (x ≡ n)) → Distinct (without n xs) → Distinct (skip e (without n xs))
    go (yes e) r = r
    go (no e) r = (notin_without x n xs d.0, r)

below_without : (n : ℕ) (xs : List ℕ) → AllBelow (suc n) xs → AllBelow n (without n xs)
unfolding without
below_without n [] h = tt
below_without n (x ∷ xs) h = go (ℕ_discrete x n) (below_without n xs h.1)
  where
    go : (e : Dec (x ≡ n)) → AllBelow n (without n xs) → AllBelow n (skip e (without n xs))
    go (yes e) r = r
    go (no e) r = (omega arith, r)

-- a list of different numbers below n has at most n of them
pub pigeonhole : (n : ℕ) (xs : List ℕ) → Distinct xs → AllBelow n xs → length xs ≤ n
pigeonhole zero [] d h = omega arith
pigeonhole zero (x ∷ xs) d h = absurd (not-suc-le-zero h.0)
pigeonhole (suc n) xs d h =
    let a = without_length n xs d in
    let b = pigeonhole n (without n xs) (distinct_without n xs d) (below_without n xs h) in
    omega arith
