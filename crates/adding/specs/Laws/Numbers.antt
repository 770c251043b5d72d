-- Bounds of cells.
use Rattle.std.specs.Prelude.{◌≡◌, ◌+◌, ◌*◌, ◌/◌, ◌%◌, ◌^◌, ◌<◌, ◌≤◌}
use Rattle.basics.specs.Words.{Bool, true, false, cond, ℕ, arith, eqb, mul-le-mul, mul-le-mul_right}
use Rattle.std.proofs.Common.{ne_eqb}
use Rattle.adding.specs.Cells.{nowhere, high_cell, low_cell}

pub scaled_few : (e scale : ℕ) → e ≤ 65535 → scale ≤ 128 → e / 16 * scale ≤ 524160
scaled_few e scale h k = let z : e / 16 * scale ≤ 4095 * 128 = mul-le-mul {n₂ = 4095} {m₂ = 128} (omega arith) k in omega arith

pub marks_high : (e weight : ℕ) → weight ≤ 2 ^ 52 → e % 16 * weight ≤ 15 * 2 ^ 52
marks_high e weight k = mul-le-mul {n₂ = 15} {m₂ = 2 ^ 52} (omega arith) k

pub marks_low : (e weight : ℕ) → weight ≤ 2 ^ 48 → e % 16 * weight ≤ 15 * 2 ^ 48
marks_low e weight k = mul-le-mul {n₂ = 15} {m₂ = 2 ^ 48} (omega arith) k

pub some_step : (e scale weight : ℕ) → (e ≡ 65535 → ⊥) → high_cell scale weight e ≡ e / 16 * scale + e % 16 * weight
unfolding high_cell
some_step e scale weight n = rw (ne_eqb e 65535 n)

pub high_small : (e scale weight : ℕ) → e ≤ 65535 → scale ≤ 128 → weight ≤ 2 ^ 52 → high_cell scale weight e ≤ nowhere
unfolding high_cell
high_small e scale weight h k l = go (eqb e 65535)
  where
    go : (b : Bool) → cond b nowhere (e / 16 * scale + e % 16 * weight) ≤ nowhere
    go true = omega arith
    go false = omega (arith, scaled_few e scale h k, marks_high e weight l)

pub low_small : (e weight : ℕ) → weight ≤ 2 ^ 48 → low_cell weight e ≤ nowhere
low_small e weight l = omega (arith, marks_low e weight l)

-- a place of a column
pub column_few : (y W : ℕ) → y ≤ 64 → W ≤ 192 → y * W ≤ 12288
column_few y W h k = let z : y * W ≤ 64 * 192 = mul-le-mul {n₂ = 64} {m₂ = 192} h k in omega arith

pub column_in : (y W place n : ℕ) → y ≤ 64 → place < W → 65 * W ≤ n → y * W + place < n
column_in y W place n h k r = let z : y * W ≤ 64 * W = mul-le-mul_right W h in omega arith
