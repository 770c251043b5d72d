-- A list's first element, for the machine count of the empty card. Assumes nothing.
use Rattle.std.specs.Prelude.{◌≡◌, ◌∷◌}
use Rattle.basics.specs.Words.{refl, List, [], ℕ, arith, length, get_or}

-- the empty list has 0 for its first element
pub empty_first : (l : List ℕ) → length l ≡ 0 → 0 ≡ get_or l 0 0
empty_first [] e = refl
empty_first (x ∷ l) e = absurd (omega arith)
