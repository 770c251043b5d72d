-- Whether a joint step keeps to the labels, by the numbers, and the least output that does.
use Rattle.std.specs.Prelude.{◌≡◌, ◌+◌, ◌-◌, ◌%◌, ◌^◌, ◌<◌, ◌≤◌, Option, Some, None}
use Rattle.basics.specs.Words.{true, List, ℕ, length, member}
use Rattle.cells.specs.declared.Cell.{Cell}
use Rattle.cells.specs.Cells.{nowhere}
use Rattle.cells.specs.Labels.{no_label}
use Rattle.columns.specs.Filling.{Small}
use Rattle.tight.specs.declared.Least.{Least}
use Rattle.tight.specs.Labels.{cell_of, HasLabel}
use Rattle.passing.specs.Places.{ColumnsPre}
use Rattle.tight.specs.Joint.{WeightsFit, high_by, low_by}

-- the label x is what the step h l counts, a pair, and the label y of the code that the step leads to, which is its last byte
pub record KeepsBy (x y : Cell) (h l : ℕ) : Type 0 where
  pub step : h < nowhere
  pub high_sum : y.high + h ≡ x.high + h % 256
  pub low_sum : y.low + l + 1 ≡ x.low

-- a label that a step may be added to
pub record Fits (x : Cell) : Type 0 where
  pub high_fits : x.high ≤ no_label
  pub low_fits : x.low ≤ 2 ^ 64 - 2 ^ 56

pub record KeepsPre (x y step : Cell) : Type 0 where
  pub label : x.high < nowhere
  pub there : step.high < nowhere
  pub fits : Fits y
  pub low_few : step.low ≤ 2 ^ 55

-- the step h l leads to a node whose label it may be added to; the nodes that it may lead to start at base
pub record LeadsOn (ranked sums : List ℕ) (base h l : ℕ) : Type 0 where
  pub node : HasLabel ranked sums (base + h % 256)
  pub few : base + h % 256 < 3200
  pub fits : Fits (cell_of ranked sums (base + h % 256))
  pub low_few : l ≤ 2 ^ 55

-- the output y keeps to the labels
abbrev pub KeepsAt : (x : Cell) (ranked sums steps ps ws : List ℕ) (base W y : ℕ) → Type 0
KeepsAt x ranked sums steps ps ws base W y = KeepsBy x (cell_of ranked sums (base + high_by steps ps ws W y % 256)) (high_by steps ps ws W y) (low_by steps ps ws W y)

pub record LeastPre (x : Cell) (ranked sums steps ps ws : List ℕ) (base W : ℕ) : Type 0 where
  pub columns : ColumnsPre steps ps W
  pub small : Small steps
  pub weights : WeightsFit ws (length ps)
  pub label : x.high < nowhere
  pub leads : (y : ℕ) → y ≤ 64 → high_by steps ps ws W y < nowhere → LeadsOn ranked sums base (high_by steps ps ws W y) (low_by steps ps ws W y)

-- none of these outputs below n keeps to the labels
abbrev pub NoneBelow : (x : Cell) (ranked sums steps ps ws : List ℕ) (base W outputs n : ℕ) → Type 0
NoneBelow x ranked sums steps ps ws base W outputs n = (y : ℕ) → y < n → member outputs y ≡ true → ¬ (KeepsAt x ranked sums steps ps ws base W y)

-- it is the least of these outputs that keeps to the labels, with the code and the label that it leads to
pub record LeastAt (x : Cell) (ranked sums steps ps ws : List ℕ) (base W outputs : ℕ) (r : Least) : Type 0 where
  pub few : r.output < 64
  pub inside : member outputs r.output ≡ true
  pub keeps : KeepsAt x ranked sums steps ps ws base W r.output
  pub code : r.code ≡ high_by steps ps ws W r.output % 256
  pub label : record { high = r.high; low = r.low } ≡ cell_of ranked sums (base + r.code)
  pub passed : NoneBelow x ranked sums steps ps ws base W outputs r.output

-- the least of these outputs, or none below 64 keeps to the labels
abbrev pub LeastOf : (x : Cell) (ranked sums steps ps ws : List ℕ) (base W outputs : ℕ) → Option Least → Type 0
LeastOf x ranked sums steps ps ws base W outputs None = NoneBelow x ranked sums steps ps ws base W outputs 64
LeastOf x ranked sums steps ps ws base W outputs (Some r) = LeastAt x ranked sums steps ps ws base W outputs r
