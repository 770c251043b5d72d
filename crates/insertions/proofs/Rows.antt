-- The lanes of a front code, and of one code.
use Rattle.std.specs.Prelude.{◌≡◌, ◌+◌, ◌*◌, ◌/◌, ◌%◌, ◌<◌, ◌≤◌}
use Rattle.basics.specs.Words.{◌∙◌, ap, List, ℕ, suc, arith, add-mul, suc-mul, mul-le-mul_left, mul-le-mul_right, mul-add-mod_self_right, mod-eq_of_lt}
use Rattle.paths.specs.Numbering.{position_is}
use Rattle.insertions.specs.Tables.{code_lane, lanes_from, LanesPre, TablePre}

-- the lanes from the code a * back on are those of the code a * back + b, four on from b * 4
pub code_lanes : (high low : List ℕ) (front back a b : ℕ) → b < back → (j : ℕ) → j < 4 → lanes_from high low front back (a * back) (b * 4 + j) ≡ code_lane high low (a * back + b) (a * 4) ((front + b) * 4) j
code_lanes high low front back a b h j l =
    let n = a * back * 4 + (b * 4 + j) in
    let c : n / 4 ≡ a * back + b = omega arith in
    let f : n % 4 ≡ j = omega arith in
    let d : n / 4 / back ≡ a = ap (λ (k : ℕ). k / back) c ∙ position_is back (omega arith) a b h in
    let e : n / 4 % back ≡ b = ap (λ (k : ℕ). k % back) c ∙ mul-add-mod_self_right a back b ∙ mod-eq_of_lt h in
    λ i. code_lane high low (c i) (d i * 4) ((front + e i) * 4) (f i)

module _ {table : List ℕ} {front back : ℕ} (R : TablePre table front back) where
  pub front_few : front ≤ 128
  front_few = let z : front * 1 ≤ front * back = mul-le-mul_left front R.some.1 in omega (arith, R.few)

  pub back_few : back ≤ 128
  back_few = let z : 1 * back ≤ front * back = mul-le-mul_right back R.some.0 in omega (arith, R.few)

  -- the codes of a front code are among all
  pub row_last : (a : ℕ) → a < front → a * back + back ≤ front * back
  row_last a h = let z : suc a * back ≤ front * back = mul-le-mul_right back h in omega (arith, suc-mul a back)

  pub lanes_pre : (a b : ℕ) → a < front → b < back → LanesPre table (a * 4) ((front + b) * 4)
  lanes_pre a b h k = record {
    few = (omega (arith, front_few), omega (arith, front_few, back_few));
    room = (omega (arith, R.room), omega (arith, R.room));
    sums = λ j l. R.sums a b j h k l;
  }

pub code_next : (b : ℕ) → b * 4 + 4 ≡ (b + 1) * 4
code_next b = omega arith

pub row_next : (a back : ℕ) → a * back * 4 + back * 4 ≡ (a + 1) * back * 4
row_next a back = omega (arith, add-mul a 1 back)
