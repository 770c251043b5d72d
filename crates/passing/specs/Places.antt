-- Places of a column, one for each machine, and what stands there: the marks, the states moved on to.
use Rattle.std.specs.Prelude.{◌≡◌, ◌∷◌, ◌+◌, ◌*◌, ◌/◌, ◌%◌, ◌<◌, ◌≤◌}
use Rattle.basics.specs.Words.{List, [], map, ℕ, length, get_or, take}
use Rattle.cells.specs.Cells.{step_at, places}

-- the places of some states: those of machines with these state counts start at a place
unfoldable pub places_from : ℕ → List ℕ → List ℕ → List ℕ
places_from at [] ss = []
places_from at (q ∷ qs) [] = []
places_from at (q ∷ qs) (s ∷ ss) = (at + s) ∷ places_from (at + q) qs ss

-- the marks at these places of a column, and the states moved on to
abbrev pub marks_at : (steps : List ℕ) (W y : ℕ) → List ℕ → List ℕ
marks_at steps W y ps = map (λ p. step_at steps W y p % 16) ps

abbrev pub states_at : (steps : List ℕ) (W y : ℕ) → List ℕ → List ℕ
states_at steps W y ps = map (λ p. step_at steps W y p / 16) ps

-- states of machines with these state counts, which have at most 40 places, and room for six places
pub record PlacesPre (counts states six : List ℕ) : Type 0 where
  pub few : length counts ≤ 6
  pub size : length states ≡ 6
  pub room : length six ≡ 6
  pub width : places counts ≤ 40
  pub there : (m : ℕ) → m < length counts → get_or states m 0 < get_or counts m 0

-- of six numbers those of the machines are the places of the states
pub record Placed (counts states six : List ℕ) : Type 0 where
  pub size : length six ≡ 6
  pub are : take (length counts) six ≡ places_from 0 counts (take (length counts) states)

-- columns of at most 40 places, and a place for each of at most six machines
pub record ColumnsPre (steps ps : List ℕ) (W : ℕ) : Type 0 where
  pub few : length ps ≤ 6
  pub width : W ≤ 40
  pub room : 65 * W ≤ length steps
  pub there : (m : ℕ) → m < length ps → get_or ps m 0 < W

-- each of six counts leaves room for 15 marks
pub record MarksPre (marks : List ℕ) : Type 0 where
  pub size : length marks ≡ 6
  pub fits : (m : ℕ) → get_or marks m 0 + 15 ≤ 65535

pub record MarksAdded (marks steps ps : List ℕ) (W y : ℕ) (marks' : List ℕ) : Type 0 where
  pub size : length marks' ≡ 6
  pub sums : (m : ℕ) → get_or marks' m 0 ≡ get_or marks m 0 + get_or (marks_at steps W y ps) m 0

-- every place of the output y has a step
pub record MovedPre (steps ps : List ℕ) (W y : ℕ) : Type 0 where
  pub columns : ColumnsPre steps ps W
  pub output : y ≤ 64
  pub there : (m : ℕ) → m < length ps → step_at steps W y (get_or ps m 0) < 4096

-- of six numbers those of the machines are the states moved on to
pub record Moved (steps ps : List ℕ) (W y : ℕ) (six : List ℕ) : Type 0 where
  pub size : length six ≡ 6
  pub are : take (length ps) six ≡ states_at steps W y ps
