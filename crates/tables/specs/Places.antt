-- Marks of machines as one number, in the order of a ranking.
use Rattle.std.specs.Prelude.{◌≡◌, ◌∷◌, ◌<◌}
use Rattle.basics.specs.Words.{List, [], ℕ, length, get_or}
use Rattle.paths.specs.ByRanking.{ranked}
use Rattle.tables.specs.Marks.{from_nibbles}

-- a ranking of at most six machines as six places, highest first; past the last machine the place 6, at which no profile has a count
abbrev pub six_places : List ℕ → List ℕ
six_places ranking = get_or ranking 0 6 ∷ get_or ranking 1 6 ∷ get_or ranking 2 6 ∷ get_or ranking 3 6 ∷ get_or ranking 4 6 ∷ get_or ranking 5 6 ∷ []

-- the number of marks, given in card order: four bits a place, the highest ranked first
abbrev pub mark_number : List ℕ → List ℕ → ℕ
mark_number places marks = from_nibbles (length places) (ranked places marks 1)

-- six places, each below 8
pub record SixPlaces (places : List ℕ) : Type 0 where
  pub size : length places ≡ 6
  pub below : (i : ℕ) → get_or places i 0 < 8
