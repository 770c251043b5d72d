-- Tests over a list and over the numbers below a bound, and lists that are searched.
use Rattle.std.specs.Prelude.{Bool, true, false, ◌&&◌, ◌||◌, List, [], ◌∷◌, ◌++◌, ℕ, zero, suc, eqb}
use Rattle.std.proofs.Math.Option.{Option, some, none}

module _ {A : Type 0} where
  -- every element passes
  unfoldable pub all_of : (A → Bool) → List A → Bool
  all_of f [] = true
  all_of f (x ∷ xs) = f x && all_of f xs

  -- every element passes with each that comes after it
  unfoldable pub pairwise : (A → A → Bool) → List A → Bool
  pairwise f [] = true
  pairwise f (x ∷ xs) = all_of (f x) xs && pairwise f xs

  -- the elements that pass, in their order
  unfoldable pub those : (A → Bool) → List A → List A
  those f [] = []
  those f (x ∷ xs) = elim (f x) [ true ↦ x ∷ those f xs | false ↦ those f xs ]

  -- all but the element in place j
  unfoldable pub without : ℕ → List A → List A
  without j [] = []
  without zero (x ∷ xs) = xs
  without (suc j) (x ∷ xs) = x ∷ without j xs

  -- the first element that passes
  unfoldable pub first_that : (A → Bool) → List A → Option A
  first_that f [] = none
  first_that f (x ∷ xs) = elim (f x) [ true ↦ some x | false ↦ first_that f xs ]

-- the lists that each element gives, one after the other
unfoldable pub joined : {A B : Type 0} → (A → List B) → List A → List B
joined f [] = []
joined f (x ∷ xs) = f x ++ joined f xs

-- every number below n passes
unfoldable pub every_below : (ℕ → Bool) → ℕ → Bool
every_below f zero = true
every_below f (suc n) = every_below f n && f n

-- some number below n passes
unfoldable pub some_below : (ℕ → Bool) → ℕ → Bool
some_below f zero = false
some_below f (suc n) = some_below f n || f n

-- the numbers below n, in order
unfoldable pub numbers_below : ℕ → List ℕ
numbers_below zero = []
numbers_below (suc n) = numbers_below n ++ (n ∷ [])

-- how often a number stands in a list
unfoldable pub occurrences : ℕ → List ℕ → ℕ
occurrences n [] = 0
occurrences n (x ∷ xs) = elim (eqb x n) [ true ↦ suc (occurrences n xs) | false ↦ occurrences n xs ]
