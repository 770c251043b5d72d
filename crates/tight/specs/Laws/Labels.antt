-- The label of a node as a cell, case by case. Assumes nothing.
use Rattle.std.specs.Prelude.{◌≡◌, ◌≢◌, ◌+◌, ◌*◌, ◌/◌, ◌%◌, ◌<◌, ◌≤◌}
use Rattle.basics.specs.Words.{sym, ◌∙◌, List, ℕ, arith, length, get_or}
use Rattle.std.proofs.Common.{eq-eqb, ne_eqb, lt-ltb, le-ltb}
use Rattle.tables.specs.Work.{state_of, cost_at}
use Rattle.cells.specs.declared.Cell.{Cell}
use Rattle.tables.specs.SumLabels.{no_label as noSum}
use Rattle.closing.specs.CountsPacking.{first_counts, last_counts}
use Rattle.tight.specs.Labels.{no_cell, counts_cell, sum_cell, cell_of}

-- ---- by counts

module _ (ranked : List ℕ) (u : ℕ) where
  pub counts_none : state_of ranked u ≡ 0 → counts_cell ranked u ≡ no_cell
  counts_none e = rw (eq-eqb (state_of ranked u) 0 e)

  pub counts_some : state_of ranked u ≢ 0 → counts_cell ranked u ≡ record { high = first_counts (cost_at ranked u) * 256 + 255; low = last_counts (cost_at ranked u) }
  counts_some n = rw (ne_eqb (state_of ranked u) 0 n)

  pub counts_made : state_of ranked u ≢ 0 → (a t m l : ℕ) → a ≡ get_or ranked (u * 8 + 1) 0 * 65536 + get_or ranked (u * 8 + 2) 0 → t ≡ 0 * 65536 + get_or ranked (u * 8 + 3) 0 → m ≡ get_or ranked (u * 8 + 4) 0 * 65536 + get_or ranked (u * 8 + 5) 0
      → l ≡ get_or ranked (u * 8 + 6) 0 * 65536 + get_or ranked (u * 8 + 7) 0 → ◌≡◌ {A = Cell} (record { high = (a * 65536 + t) * 256 + 255; low = m * 4294967296 + l }) (counts_cell ranked u)
  counts_made n a t m l ea et em el =
      let p : (a * 65536 + t) * 256 + 255 ≡ first_counts (cost_at ranked u) * 256 + 255 = omega arith in
      let q : m * 4294967296 + l ≡ last_counts (cost_at ranked u) = omega arith in
      (λ i. record { high = p i; low = q i }) ∙ sym (counts_some n)

-- ---- by sums

module _ (sums : List ℕ) (u : ℕ) where
  pub sum_none : noSum ≤ get_or sums u 0 → sum_cell sums u ≡ no_cell
  sum_none h = rw (le-ltb (get_or sums u 0) noSum h)

  pub sum_some : get_or sums u 0 < noSum → sum_cell sums u ≡ record { high = get_or sums u 0 / 4096 * 256 + 255; low = get_or sums u 0 % 4096 }
  sum_some h = rw (lt-ltb (get_or sums u 0) noSum h)

-- ---- by the kind of slice

module _ (ranked sums : List ℕ) (u : ℕ) where
  pub cell_by_counts : length sums ≡ 0 → cell_of ranked sums u ≡ counts_cell ranked u
  unfolding cell_of
  cell_by_counts e = rw (eq-eqb (length sums) 0 e)

  pub cell_by_sums : length sums ≢ 0 → cell_of ranked sums u ≡ sum_cell sums u
  unfolding cell_of
  cell_by_sums n = rw (ne_eqb (length sums) 0 n)
