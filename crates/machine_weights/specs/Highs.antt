-- What marks count in high.
use Rattle.std.specs.Prelude.{◌∷◌}
use Rattle.basics.specs.Words.{List, [], ℕ}
use Rattle.cells.specs.Cells.{high_of}

-- what a mark counts in high, for six machines in card order
abbrev pub six_highs : List ℕ → List ℕ
six_highs ws = high_of ws 0 ∷ high_of ws 1 ∷ high_of ws 2 ∷ high_of ws 3 ∷ high_of ws 4 ∷ high_of ws 5 ∷ []
