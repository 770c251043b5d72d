-- What closing a position asks can be met: two codes, one of them with a label. Assumes nothing.
use Rattle.std.specs.Prelude.{◌≡◌, ◌∷◌, ◌+◌, ◌%◌, ◌^◌, ◌<◌, ◌≤◌}
use Rattle.basics.specs.Words.{refl, List, [], ℕ, zero, suc, arith, replicate, length-replicate}
use Rattle.cells.specs.Cells.{nowhere}
use Rattle.cells.specs.Labels.{cell_at}
use Rattle.closing.specs.Closing.{ClosePre}

abbrev labels : List ℕ
labels = 511 ∷ 7 ∷ nowhere ∷ replicate 253 0

pub can_close : ClosePre (replicate 16 0) [] labels (replicate 256 0) 0 2
can_close = record {
  counts = λ e. record { nodes = omega (arith, length-replicate {A = ℕ} 16 0); high = high };
  in_sums = λ n. absurd (n refl);
  pass = record { few = omega arith; own_size = omega (arith, length-replicate {A = ℕ} 253 0); next_size = length-replicate {A = ℕ} 256 0; last = last; low = low };
}
  where
    last : (c : ℕ) → c < 2 → (cell_at labels c).high < nowhere → (cell_at labels c).high % 256 ≡ 255
    last zero k h = refl
    last (suc zero) k h = absurd (omega arith)
    last (suc (suc c)) k h = absurd (omega arith)

    high : (c : ℕ) → c < 2 → (cell_at labels c).high < nowhere → (cell_at labels c).high < 2 ^ 56
    high zero k h = omega arith
    high (suc zero) k h = absurd (omega arith)
    high (suc (suc c)) k h = absurd (omega arith)

    low : (c : ℕ) → c < 2 → (cell_at labels c).high < nowhere → (cell_at labels c).low + 2 ^ 56 ≤ 2 ^ 64
    low zero k h = omega arith
    low (suc zero) k h = absurd (omega arith)
    low (suc (suc c)) k h = absurd (omega arith)
