-- Trying a step with the label that it leads to: of a code, of the codes of a front code, of all codes of a position.
use Rattle.std.specs.Prelude.{◌≡◌, ◌||◌, ◌&&◌, ◌⊎◌, ◌≢◌, ◌+◌, ◌*◌, ◌/◌, ◌%◌, ◌^◌, ◌<◌, ◌≤◌}
use Rattle.basics.specs.Words.{Bool, cond, List, ℕ, zero, suc, length, get_or, eqb, ltb}
use Rattle.cells.specs.declared.Cell.{Cell}
use Rattle.cells.specs.Cells.{nowhere}
use Rattle.cells.specs.Groups.{sum_at}
use Rattle.cells.specs.Labels.{cell_at, OwnCell, next_cell, NextFits}

-- by high, then by low
abbrev pub is_less : Cell → Cell → Bool
is_less w x = ltb w.high x.high || (eqb w.high x.high && ltb w.low x.low)

-- w where it is less than x, and x else
unfoldable pub lesser : Cell → Cell → Cell
lesser w x = cond (is_less w x) w x

-- the least of a label and of the first n ways, of which the first is kept where they are the same
unfoldable pub least_of : (ℕ → Cell) → ℕ → Cell → Cell
least_of f zero x = x
least_of f (suc n) x = lesser (f n) (least_of f n x)

-- a step h l with the label that it leads to, and one pair
abbrev pub way_by : List ℕ → ℕ → ℕ → Cell
way_by next h l = record { high = h + get_or next (h % 128 * 2) 0; low = l + get_or next (h % 128 * 2 + 1) 0 + 1 }

-- the step is the sum of those at a place of either group
abbrev pub way_of : (next high low : List ℕ) (a b : ℕ) → Cell
way_of next high low a b = way_by next (get_or high a 0 + get_or high b 0) (get_or low a 0 + get_or low b 0)

pub record LanePre (next high low : List ℕ) (a b : ℕ) : Type 0 where
  pub fits : NextFits next
  pub high_room : (a < length high) × (b < length high)
  pub low_room : (a < length low) × (b < length low)
  pub high_few : get_or high a 0 + get_or high b 0 ≤ 6 * nowhere
  pub low_few : get_or low a 0 + get_or low b 0 ≤ 2 ^ 55

pub record CodePre (own next high low : List ℕ) (code a b : ℕ) : Type 0 where
  pub size : length own ≡ 256
  pub code_few : code < 128
  pub places_few : (a < 65536) × (b < 65536)
  pub lanes : (j : ℕ) → j < 4 → LanePre next high low (a + j) (b + j)

-- the code's label is the least of its old one and the four ways; others are as they were
pub record CodeTried (own own' next high low : List ℕ) (code a b : ℕ) : Type 0 where
  pub here : cell_at own' code ≡ least_of (λ j. way_of next high low (a + j) (b + j)) 4 (cell_at own code)
  pub others : (c : ℕ) → c ≢ code → cell_at own' c ≡ cell_at own c

-- the four ways of a code, by its front code and its back code
abbrev pub ways_of : (next high low : List ℕ) (front back c : ℕ) → ℕ → Cell
ways_of next high low front back c j = way_of next high low (c / back * 4 + j) ((front + c % back) * 4 + j)

pub record TryPre (own next high low : List ℕ) (front back : ℕ) : Type 0 where
  pub size : length own ≡ 256
  pub fits : NextFits next
  pub few : front * back ≤ 128
  pub some : (0 < front) × (0 < back)
  pub high_room : (front + back) * 4 ≤ length high
  pub low_room : (front + back) * 4 ≤ length low
  pub high_few : (a b j : ℕ) → a < front → b < back → j < 4 → sum_at high front a b j ≤ 6 * nowhere
  pub low_few : (a b j : ℕ) → a < front → b < back → j < 4 → sum_at low front a b j ≤ 2 ^ 55

-- the codes from n on and below k are tried; others are as they were
pub record TriedIn (own own' next high low : List ℕ) (front back n k : ℕ) : Type 0 where
  pub size : length own' ≡ length own
  pub inside : (c : ℕ) → n ≤ c → c < k → cell_at own' c ≡ least_of (ways_of next high low front back c) 4 (cell_at own c)
  pub others : (c : ℕ) → (c < n) ⊎ (k ≤ c) → cell_at own' c ≡ cell_at own c

-- for passing over front codes from which nothing leads on: sums are codes in their last byte even there, and the cells from n on and below k are labels
pub record SkipPre (own next high : List ℕ) (front back n k : ℕ) : Type 0 where
  pub codes : (a b j : ℕ) → a < front → b < back → j < 4 → sum_at high front a b j % 256 < front * back
  pub nexts : (t : ℕ) → t < front * back → OwnCell (next_cell next t)
  pub owns : (c : ℕ) → n ≤ c → c < k → OwnCell (cell_at own c)
