-- Lists without an element, and lists with one element replaced. Assumes nothing.
use Rattle.std.specs.Prelude.{◌≡◌, ◌∷◌}
use Rattle.basics.proofs.Words.{refl, Bool, true, List, [], ℕ, zero, suc, get_or, set, all_of, pairwise, without, both, left, right}

-- what holds of all elements, or of every two, holds of those that are left
pub all_without : {A : Type 0} (f : A → Bool) (j : ℕ) (xs : List A) → all_of f xs ≡ true → all_of f (without j xs) ≡ true
unfolding without all_of
all_without f j [] t = t
all_without f zero (x ∷ xs) t = right (f x) (all_of f xs) t
all_without f (suc j) (x ∷ xs) t = both (left (f x) (all_of f xs) t) (all_without f j xs (right (f x) (all_of f xs) t))

pub pairwise_without : {A : Type 0} (f : A → A → Bool) (j : ℕ) (xs : List A) → pairwise f xs ≡ true → pairwise f (without j xs) ≡ true
unfolding without pairwise
pairwise_without f j [] t = t
pairwise_without f zero (x ∷ xs) t = right (all_of (f x) xs) (pairwise f xs) t
pairwise_without f (suc j) (x ∷ xs) t =
    both (all_without (f x) j xs (left (all_of (f x) xs) (pairwise f xs) t)) (pairwise_without f j xs (right (all_of (f x) xs) (pairwise f xs) t))

-- a test of all elements where the one replaced passes as before
pub all_set_same : {A : Type 0} (f : A → Bool) (xs : List A) (i : ℕ) (y d : A) → f y ≡ f (get_or xs i d) → all_of f (set xs i y) ≡ all_of f xs
unfolding all_of
all_set_same f [] i y d e = refl
all_set_same f (x ∷ xs) zero y d e = rw e
all_set_same f (x ∷ xs) (suc i) y d e = rw (all_set_same f xs i y d e)
