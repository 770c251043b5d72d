-- Products of numbers.
use Rattle.std.specs.Prelude.{List, [], ◌∷◌, ℕ, ◌*◌}

unfoldable pub product : List ℕ → ℕ
product [] = 1
product (n ∷ ns) = n * product ns
