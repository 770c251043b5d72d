-- The labels of the last position: its endings.
use Rattle.std.specs.Prelude.{◌≡◌, ◌+◌, ◌*◌, ◌/◌, ◌%◌, ◌<◌, ◌≤◌}
use Rattle.basics.specs.Words.{cond, List, ℕ, length, get_or, ltb}
use Rattle.cells.specs.declared.Cell.{Cell}
use Rattle.cells.specs.Cells.{nowhere}
use Rattle.cells.specs.Labels.{no_label, cell_at}

-- the label of an ending with these numbers, whose last byte is 255; none where the high one is nowhere or more
unfoldable pub ending_cell : ℕ → ℕ → Cell
ending_cell h l = cond (ltb h nowhere) (record { high = h + 255; low = l }) (record { high = no_label; low = 0 })

-- the first of the four sums of a front code and a back code
abbrev pub first_sum : List ℕ → ℕ → ℕ → ℕ → ℕ
first_sum table front a b = get_or table (a * 4) 0 + get_or table ((front + b) * 4) 0

-- the label of a code's ending
abbrev pub ending_at : (high low : List ℕ) (front back c : ℕ) → Cell
ending_at high low front back c = ending_cell (first_sum high front (c / back) (c % back)) (first_sum low front (c / back) (c % back))

pub record WritePre (own high low : List ℕ) (front back : ℕ) : Type 0 where
  pub size : length own ≡ 256
  pub few : front * back ≤ 128
  pub small : front + back ≤ 66
  pub some_back : 0 < back
  pub high_room : (front + back) * 4 ≤ length high
  pub low_room : (front + back) * 4 ≤ length low
  pub high_few : (a b : ℕ) → a < front → b < back → first_sum high front a b ≤ 6 * nowhere
  pub low_few : (a b : ℕ) → a < front → b < back → first_sum low front a b ≤ 6 * nowhere

-- the codes below k have the labels of their endings
pub record EndingsWritten (own high low : List ℕ) (front back k : ℕ) : Type 0 where
  pub size : length own ≡ 256
  pub label : (c : ℕ) → c < k → cell_at own c ≡ ending_at high low front back c
