-- Lists in which one place takes in another: for machines, parts, state counts and profile counts alike.
use Rattle.std.specs.Prelude.{◌∷◌, ◌+◌}
use Rattle.basics.specs.Words.{List, [], ℕ, zero, suc, get_or, without}

module _ {A : Type 0} where
  -- place i holds what f makes of the places i and j, for i < j, and place j is gone
  unfoldable pub merged_at : (A → A → A) → ℕ → ℕ → List A → List A
  merged_at f i j [] = []
  merged_at f i zero (x ∷ xs) = x ∷ xs
  merged_at f zero (suc j) (x ∷ xs) = f x (get_or xs j x) ∷ without j xs
  merged_at f (suc i) (suc j) (x ∷ xs) = x ∷ merged_at f i j xs

-- a profile with the counts of the machines i and j added
abbrev pub merged_counts : ℕ → ℕ → List ℕ → List ℕ
merged_counts i j counts = merged_at (λ m n. m + n) i j counts
