-- The joint step at places of a column, one for each machine: the sums of the cells that stand there.
use Rattle.std.specs.Prelude.{◌≡◌, ◌∷◌, ◌+◌, ◌*◌, ◌^◌, ◌<◌, ◌≤◌}
use Rattle.basics.specs.Words.{List, [], ℕ, suc, length}
use Rattle.cells.specs.declared.Cell.{Cell}
use Rattle.cells.specs.Cells.{nowhere, scale_of, high_of, low_of, high_at, low_at}

-- the cells at these places, of the machines from the number m on, added up
unfoldable pub place_sum : (ℕ → ℕ → ℕ) → ℕ → List ℕ → ℕ
place_sum cell m [] = 0
place_sum cell m (p ∷ ps) = cell m p + place_sum cell (suc m) ps

-- weights of n machines, small enough for their sums
pub record WeightsFit (ws : List ℕ) (n : ℕ) : Type 0 where
  pub size : 3 * n ≤ length ws
  pub scale : (m : ℕ) → m < n → scale_of ws m ≤ 128
  pub high_few : (m : ℕ) → high_of ws m ≤ 2 ^ 52
  pub low_few : (m : ℕ) → low_of ws m ≤ 2 ^ 48

-- the sums of the cells of the output y at the places
abbrev pub high_by : (steps ps ws : List ℕ) (W y : ℕ) → ℕ
high_by steps ps ws W y = place_sum (high_at steps ws W y) 0 ps

abbrev pub low_by : (steps ps ws : List ℕ) (W y : ℕ) → ℕ
low_by steps ps ws W y = place_sum (low_at steps ws W y) 0 ps

-- a high number from nowhere on stands for any such sum
pub record JointAt (steps ps ws : List ℕ) (W y : ℕ) (r : Cell) : Type 0 where
  pub high : r.high < nowhere → r.high ≡ high_by steps ps ws W y
  pub low : r.high < nowhere → r.low ≡ low_by steps ps ws W y
  pub nothing : nowhere ≤ r.high → nowhere ≤ high_by steps ps ws W y
