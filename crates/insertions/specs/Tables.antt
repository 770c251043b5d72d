-- The lanes of tables of joint steps, four outputs at a time, and of all the kept outputs.
use Rattle.std.specs.Prelude.{◌≡◌, ◌+◌, ◌*◌, ◌/◌, ◌%◌, ◌^◌, ◌<◌, ◌≤◌}
use Rattle.basics.specs.Words.{List, ℕ, zero, suc, length, get_or, product}
use Rattle.cells.specs.Cells.{high_at, low_at, cell_sum}
use Rattle.cells.specs.Groups.{sum_at}
use Rattle.cells.specs.Fours.{next_four, without_four}
use Rattle.insertions.specs.Lanes.{Lane, count_to}

-- the lane j of a code, whose steps are the sums of those at a place of either group
abbrev pub code_lane : (high low : List ℕ) (code a b : ℕ) → ℕ → Lane
code_lane high low code a b j = record { code = code; high = get_or high (a + j) 0 + get_or high (b + j) 0; low = get_or low (a + j) 0 + get_or low (b + j) 0 }

-- the lanes of all codes, four each
abbrev pub four_lane : (high low : List ℕ) (front back : ℕ) → ℕ → Lane
four_lane high low front back n = code_lane high low (n / 4) (n / 4 / back * 4) ((front + n / 4 % back) * 4) (n % 4)

-- those from the code c on
abbrev pub lanes_from : (high low : List ℕ) (front back c : ℕ) → ℕ → Lane
lanes_from high low front back c n = four_lane high low front back (c * 4 + n)

-- ---- the kept outputs

-- a set without its first q fours
unfoldable pub after_fours : ℕ → ℕ → ℕ
after_fours zero kept = kept
after_fours (suc q) kept = without_four (after_fours q kept)

-- the step of a code with an output, by the columns
abbrev pub step_lane : (steps ws counts : List ℕ) (W y c : ℕ) → Lane
step_lane steps ws counts W y c = record { code = c; high = cell_sum (high_at steps ws W y) 0 0 counts c; low = cell_sum (low_at steps ws W y) 0 0 counts c }

-- the output of a lane: four at a time, at all codes
abbrev pub output_at : (counts : List ℕ) (kept n : ℕ) → ℕ
output_at counts kept n = get_or (next_four (after_fours (n / 4 / product counts) kept)) (n % 4) 0

abbrev pub kept_lane : (steps ws counts : List ℕ) (W kept : ℕ) → ℕ → Lane
kept_lane steps ws counts W kept n = step_lane steps ws counts W (output_at counts kept n) (n / 4 % product counts)

-- the set has q fours
pub record FoursOf (kept q : ℕ) : Type 0 where
  pub none_left : after_fours q kept ≡ 0
  pub some_left : (p : ℕ) → p < q → 0 < after_fours p kept

-- ---- what counting and writing ask

-- room for n more in each count
pub record CountRoom (ns : List ℕ) (n : ℕ) : Type 0 where
  pub size : length ns ≡ 514
  pub fits : (i : ℕ) → get_or ns i 0 + n ≤ 65535

-- room for n lanes in their lists
pub record EntryRoom (f : ℕ → Lane) (n : ℕ) (es ns : List ℕ) : Type 0 where
  pub size : length ns ≡ 514
  pub codes : (i : ℕ) → i < n → (f i).code < 128
  pub room : (l : ℕ) → l < 512 → get_or ns (l + 1) 0 + count_to f l n ≤ length es
  pub fits : (l : ℕ) → l < 512 → get_or ns (l + 1) 0 + count_to f l n ≤ 65535

-- four numbers of a table at either place, with sums of 64 bits
pub record LanesPre (table : List ℕ) (a b : ℕ) : Type 0 where
  pub few : (a < 65536) × (b < 65536)
  pub room : (a + 4 ≤ length table) × (b + 4 ≤ length table)
  pub sums : (j : ℕ) → j < 4 → get_or table (a + j) 0 + get_or table (b + j) 0 < 2 ^ 64

-- a table of four numbers for each front code and then for each back code
pub record TablePre (table : List ℕ) (front back : ℕ) : Type 0 where
  pub few : front * back ≤ 128
  pub some : (0 < front) × (0 < back)
  pub room : (front + back) * 4 ≤ length table
  pub sums : (a b j : ℕ) → a < front → b < back → j < 4 → sum_at table front a b j < 2 ^ 64
