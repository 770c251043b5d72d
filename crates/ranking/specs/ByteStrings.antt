-- The order of byte strings.
use Rattle.std.specs.Prelude.{◌&&◌, ◌||◌, ◌∷◌}
use Rattle.basics.specs.Words.{Bool, false, List, [], ℕ, eqb, ltb}

-- of two of one length, the smaller has the lower byte at the first place where they differ
unfoldable pub smaller : List ℕ → List ℕ → Bool
smaller [] t = false
smaller (x ∷ s) [] = false
smaller (x ∷ s) (y ∷ t) = ltb x y || (eqb x y && smaller s t)
