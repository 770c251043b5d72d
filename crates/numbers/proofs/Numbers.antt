-- Laws of the results that are written. Assumes nothing.
use mathlib.Core.Path.{◌≡◌, refl, ◌∙◌}
use mathlib.Core.List.{List, [], ◌∷◌, ◌++◌, append-nil}
use Prim.Native.Nat.{ℕ}
use native.Mathlib.Omega.{arith}
use lib.ListN.{length, get_or}

-- six counts, one by one, and what follows
pub six_counts : (l rest : List ℕ) → length l ≡ 6
    → (get_or l 0 0 ∷ get_or l 1 0 ∷ get_or l 2 0 ∷ get_or l 3 0 ∷ get_or l 4 0 ∷ get_or l 5 0 ∷ rest) ≡ l ++ rest
six_counts [] rest h = absurd (omega arith)
six_counts (x₁ ∷ []) rest h = absurd (omega arith)
six_counts (x₁ ∷ x₂ ∷ []) rest h = absurd (omega arith)
six_counts (x₁ ∷ x₂ ∷ x₃ ∷ []) rest h = absurd (omega arith)
six_counts (x₁ ∷ x₂ ∷ x₃ ∷ x₄ ∷ []) rest h = absurd (omega arith)
six_counts (x₁ ∷ x₂ ∷ x₃ ∷ x₄ ∷ x₅ ∷ []) rest h = absurd (omega arith)
six_counts (x₁ ∷ x₂ ∷ x₃ ∷ x₄ ∷ x₅ ∷ x₆ ∷ []) rest h = refl
six_counts (x₁ ∷ x₂ ∷ x₃ ∷ x₄ ∷ x₅ ∷ x₆ ∷ x₇ ∷ l) rest h = absurd (omega arith)

-- six counts alone
pub six_alone : (l : List ℕ) → length l ≡ 6 → (get_or l 0 0 ∷ get_or l 1 0 ∷ get_or l 2 0 ∷ get_or l 3 0 ∷ get_or l 4 0 ∷ get_or l 5 0 ∷ []) ≡ l
six_alone l h = six_counts l [] h ∙ append-nil l
