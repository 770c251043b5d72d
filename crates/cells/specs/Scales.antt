-- The scales of machines: what a state counts in a code.
use Rattle.std.specs.Prelude.{◌≡◌, ◌≢◌, ◌%◌, ◌<◌, ◌≤◌}
use Rattle.basics.specs.Words.{List, ℕ, suc, length, get_or, drop, product}
use Rattle.cells.specs.Cells.{scale_of}

-- ys is xs with the scales of the machines from m on
pub record ScalesWritten (counts xs ys : List ℕ) (m : ℕ) : Type 0 where
  pub size : length ys ≡ length xs
  pub scale : (k : ℕ) → m ≤ k → k < length counts → scale_of ys k ≡ product (drop (suc k) counts)
  pub others : (i : ℕ) → i % 3 ≢ 0 → get_or ys i 0 ≡ get_or xs i 0
