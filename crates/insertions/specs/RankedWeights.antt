-- The weights of machines in ranked order.
use Rattle.std.specs.Prelude.{◌≡◌, ◌∷◌, ◌+◌, ◌<◌}
use Rattle.basics.specs.Words.{cond, List, [], ℕ, eqb}
use Rattle.cells.specs.Cells.{high_of, low_of}
use Rattle.settling.specs.Prices.{ranked_highs, ranked_lows}

-- what a mark of the machine m counts, where the machine at each place of an order counts the number at that place
unfoldable pub weight_by : (order numbers : List ℕ) → ℕ → ℕ
weight_by [] ns m = 0
weight_by (a ∷ r) [] m = 0
weight_by (a ∷ r) (n ∷ ns) m = cond (eqb a m) n 0 + weight_by r ns m

-- the places are six, past the last machine the number 6
pub record RankedWeights (places ws : List ℕ) : Type 0 where
  pub high : (m : ℕ) → m < 6 → high_of ws m ≡ weight_by places ranked_highs m
  pub low : (m : ℕ) → m < 6 → low_of ws m ≡ weight_by places ranked_lows m
