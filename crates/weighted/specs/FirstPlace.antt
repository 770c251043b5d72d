-- The places by which the lists have marks: card order, but a machine and the first one change places.
use Rattle.std.specs.Prelude.{◌∷◌}
use Rattle.basics.specs.Words.{List, [], ℕ, get_or, set}

abbrev pub card_places : List ℕ
card_places = 0 ∷ 1 ∷ 2 ∷ 3 ∷ 4 ∷ 5 ∷ []

-- what stands at k and what stands first change places
abbrev pub first_put : ℕ → List ℕ → List ℕ
first_put k l = set (set l 0 (get_or l k 0)) k (get_or l 0 0)
