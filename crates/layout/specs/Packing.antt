-- The bytes of a card: its table and its parts, joined.
use Rattle.std.specs.Prelude.{◌∷◌, ◌++◌, ◌+◌, ◌*◌, ◌/◌, ◌%◌}
use Rattle.basics.specs.Words.{List, [], ℕ, length, take, drop}

-- the sum of the lengths, without wrapping
unfoldable pub total : List ℕ → ℕ
total [] = 0
total (n ∷ ns) = n + total ns

-- the parts that are joined, by their lengths
unfoldable pub split : List ℕ → List ℕ → List (List ℕ)
split [] bytes = []
split (n ∷ ns) bytes = take n bytes ∷ split ns (drop n bytes)

-- the offset and the length of each part, the first at a place
unfoldable pub places : ℕ → List ℕ → List ℕ
places at [] = []
places at (n ∷ ns) = at % 256 ∷ at / 256 ∷ n % 256 ∷ n / 256 ∷ places (at + n) ns

-- what stands before the parts: K, S, the places of the parts
abbrev pub table : ℕ → List ℕ → List ℕ
table S lengths = length lengths ∷ S ∷ places (2 + 4 * length lengths) lengths

-- the card: the table, the parts
unfoldable pub packed : ℕ → List ℕ → List ℕ → List ℕ
packed S lengths joined = table S lengths ++ joined
