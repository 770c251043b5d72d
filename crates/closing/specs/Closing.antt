-- Closing a position: its labels are written into a work slice, and become those of the next position; then no code has a label.
use Rattle.std.specs.Prelude.{◌≡◌, ◌⊎◌, ◌≢◌, ◌+◌, ◌*◌, ◌/◌, ◌%◌, ◌^◌, ◌<◌, ◌≤◌}
use Rattle.basics.specs.Words.{cond, List, Option, some, ℕ, length, ltb}
use Rattle.paths.specs.Ranked.{Ranked}
use Rattle.tables.specs.Work.{HasNodes, label_of}
use Rattle.tables.specs.LabelCost.{AllShort}
use Rattle.tables.specs.SumLabels as sumLabels
use Rattle.settling.specs.Packing.{packed_path}
use Rattle.cells.specs.declared.Cell.{Cell}
use Rattle.cells.specs.Cells.{nowhere}
use Rattle.cells.specs.Labels.{no_label, cell_at, OwnCell, next_cell, NextFits}
use Rattle.cells.specs.Trying.{label_from}
use Rattle.entering.specs.Entering.{Blank}
use Rattle.closing.specs.CountsPacking.{counts_packing}

-- ---- the label of a node in a work slice

-- as counts
pub record CountsHeld (work : List ℕ) (u : ℕ) (o : Option (Ranked 1)) : Type 0 where
  pub stored : o ≡ packed_path counts_packing (label_of work u)
  pub short : (k : Ranked 6) → label_of work u ≡ some k → AllShort 6 k

-- as a sum
abbrev pub SumHeld : (work : List ℕ) (u : ℕ) (o : Option (Ranked 1)) → Type 0
SumHeld work u o = o ≡ sumLabels.label_of work u

-- in the slice that is there
pub record Held (ranked sums : List ℕ) (u : ℕ) (o : Option (Ranked 1)) : Type 0 where
  pub counts : length sums ≡ 0 → CountsHeld ranked u o
  pub in_sum : length sums ≢ 0 → SumHeld sums u o

-- ---- writing labels

-- the labels of n codes are written from the node base on: Had tells the labels of nodes before, and Has after
pub record Written (Had Has : ℕ → Option (Ranked 1) → Type 0) (own : List ℕ) (base n : ℕ) : Type 0 where
  pub held : (c : ℕ) → c < n → Has (base + c) (label_from (cell_at own c))
  pub others : (w : ℕ) (o : Option (Ranked 1)) → (w < base) ⊎ (base + n ≤ w) → Had w o → Has w o

-- the two numbers of a label are written at a node as counts
pub record CountsStored (work work' : List ℕ) (node high low : ℕ) : Type 0 where
  pub size : length work' ≡ length work
  pub held : CountsHeld work' node (label_from (record { high = high; low = low }))
  pub others : (w : ℕ) (o : Option (Ranked 1)) → w ≢ node → CountsHeld work w o → CountsHeld work' w o

-- a settled position: a label is below 2 ^ 56
pub record CountsPre (work own : List ℕ) (base P : ℕ) : Type 0 where
  pub nodes : HasNodes work (base + P)
  pub high : (c : ℕ) → c < P → (cell_at own c).high < nowhere → (cell_at own c).high < 2 ^ 56

pub record CountsClosed (work work' own : List ℕ) (base n : ℕ) : Type 0 where
  pub size : length work' ≡ length work
  pub written : Written (CountsHeld work) (CountsHeld work') own base n

-- the sum of a cell's label
unfoldable pub sum_of : Cell → ℕ
sum_of x = cond (ltb x.high nowhere) (x.high / 256 * 4096 + x.low) sumLabels.no_label

-- a label's sum is below that of none
pub record SumsPre (work own : List ℕ) (base P : ℕ) : Type 0 where
  pub nodes : base + P ≤ length work
  pub few : (c : ℕ) → c < P → (cell_at own c).high < nowhere → ((cell_at own c).high < 2 ^ 59) × ((cell_at own c).low < 4096)

pub record SumsClosed (work work' own : List ℕ) (base n : ℕ) : Type 0 where
  pub size : length work' ≡ length work
  pub written : Written (SumHeld work) (SumHeld work') own base n

-- ---- passing labels on

-- the cell, or no_label and 0 where it stands for no label
unfoldable pub or_none : Cell → Cell
or_none x = cond (ltb x.high nowhere) x (record { high = no_label; low = 0 })

pub record PassPre (own next : List ℕ) (code : ℕ) : Type 0 where
  pub few : code < 128
  pub own_size : length own ≡ 256
  pub next_size : length next ≡ 256
  pub last : (cell_at own code).high < nowhere → (cell_at own code).high % 256 ≡ 255

-- the code's label went from own to next
pub record Passed (own own' next next' : List ℕ) (code : ℕ) : Type 0 where
  pub own_size : length own' ≡ length own
  pub next_size : length next' ≡ length next
  pub passed : next_cell next' code ≡ or_none (cell_at own code)
  pub blank : cell_at own' code ≡ record { high = no_label; low = 0 }
  pub own_others : (c : ℕ) → c ≢ code → cell_at own' c ≡ cell_at own c
  pub next_others : (c : ℕ) → c ≢ code → cell_at next' c ≡ cell_at next c

pub record PassAllPre (own next : List ℕ) (P : ℕ) : Type 0 where
  pub few : P ≤ 128
  pub own_size : length own ≡ 256
  pub next_size : length next ≡ 256
  pub last : (c : ℕ) → c < P → (cell_at own c).high < nowhere → (cell_at own c).high % 256 ≡ 255
  pub low : (c : ℕ) → c < P → (cell_at own c).high < nowhere → (cell_at own c).low + 2 ^ 56 ≤ 2 ^ 64

-- the labels of a position went from own to next
pub record AllPassed (own own' next next' : List ℕ) (P : ℕ) : Type 0 where
  pub labels : (c : ℕ) → c < P → OwnCell (next_cell next' c)
  pub same : (c : ℕ) → c < P → label_from (next_cell next' c) ≡ label_from (cell_at own c)
  pub high_same : (c : ℕ) → c < P → (next_cell next' c).high < nowhere → (next_cell next' c).high ≡ (cell_at own c).high
  pub fits : NextFits next → NextFits next'
  pub blank : Blank own' P
  pub own_size : length own' ≡ 256
  pub next_size : length next' ≡ 256

-- ---- closing

pub record ClosePre (ranked sums own next : List ℕ) (base P : ℕ) : Type 0 where
  pub counts : length sums ≡ 0 → CountsPre ranked own base P
  pub in_sums : length sums ≢ 0 → SumsPre sums own base P
  pub pass : PassAllPre own next P

pub record ClosedAt (ranked ranked' sums sums' own own' next next' : List ℕ) (base P : ℕ) : Type 0 where
  pub ranked_size : length ranked' ≡ length ranked
  pub sums_size : length sums' ≡ length sums
  pub written : Written (Held ranked sums) (Held ranked' sums') own base P
  pub passed : AllPassed own own' next next' P
