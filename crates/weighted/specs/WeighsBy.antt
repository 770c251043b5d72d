-- The numbers of machines by their weights.
use Rattle.std.specs.Prelude.{◌≡◌, ◌⊎◌, ◌≢◌, ◌*◌, ◌%◌, ◌<◌, ◌≤◌}
use Rattle.basics.specs.Words.{List, ℕ, length, get_or}
use Rattle.cells.specs.Cells.{high_of, low_of}

-- a mark counts 256 times its machine's weight in high, and nothing in low
pub record WeighsBy (weights ws : List ℕ) : Type 0 where
  pub high : (m : ℕ) → high_of ws m ≡ 256 * get_or weights m 0
  pub low : (m : ℕ) → low_of ws m ≡ 0

-- ys is xs with what the marks of the first n machines count in high
pub record HighsWritten (weights xs ys : List ℕ) (n : ℕ) : Type 0 where
  pub size : length ys ≡ length xs
  pub high : (m : ℕ) → m < n → high_of ys m ≡ 256 * get_or weights m 0
  pub others : (i : ℕ) → (i % 3 ≢ 1) ⊎ (3 * n ≤ i) → get_or ys i 0 ≡ get_or xs i 0
