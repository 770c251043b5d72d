-- The labels that the walk keeps to, as cells. In ranked order they are counts, eight 16-bit numbers to a node; by weights they are sums, one 64-bit
-- number to a node. One of the two slices has them, and the other is empty.
use Rattle.std.specs.Prelude.{◌≡◌, ◌≢◌, ◌+◌, ◌*◌, ◌/◌, ◌%◌, ◌<◌}
use Rattle.basics.specs.Words.{cond, List, ℕ, length, get_or, eqb, ltb}
use Rattle.tables.specs.Work.{HasNode, state_of, cost_at}
use Rattle.cells.specs.declared.Cell.{Cell}
use Rattle.cells.specs.Labels.{no_label}
use Rattle.tables.specs.SumLabels.{no_label as noSum}
use Rattle.closing.specs.CountsPacking.{first_counts, last_counts}

-- the cell of no label
abbrev pub no_cell : Cell
no_cell = record { high = no_label; low = 0 }

-- the three highest ranked counts and the byte 255; the other counts and the number of pairs
abbrev pub counts_cell : List ℕ → ℕ → Cell
counts_cell ranked u = cond (eqb (state_of ranked u) 0) no_cell (record { high = first_counts (cost_at ranked u) * 256 + 255; low = last_counts (cost_at ranked u) })

-- the sum and the byte 255; the number of pairs
abbrev pub sum_cell : List ℕ → ℕ → Cell
sum_cell sums u = cond (ltb (get_or sums u 0) noSum) (record { high = get_or sums u 0 / 4096 * 256 + 255; low = get_or sums u 0 % 4096 }) no_cell

-- the label of the node u
unfoldable pub cell_of : (ranked sums : List ℕ) → ℕ → Cell
cell_of ranked sums u = cond (eqb (length sums) 0) (counts_cell ranked u) (sum_cell sums u)

-- the slices have the node u
pub record HasLabel (ranked sums : List ℕ) (u : ℕ) : Type 0 where
  pub by_counts : length sums ≡ 0 → HasNode ranked u
  pub by_sums : length sums ≢ 0 → u < length sums
