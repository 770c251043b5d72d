-- Writing labels as sums, code by code. Assumes nothing.
use Rattle.std.specs.Prelude.{◌≡◌, ◌+◌, ◌*◌, ◌/◌, ◌%◌, ◌^◌, ◌<◌, ◌≤◌}
use Rattle.basics.proofs.Words.{refl, sym, ◌∙◌, ap, List, some, ℕ, arith, set, length-set, get_or-set_same, get_or-set_other, dec_lt, le-ltb, lt-ltb}
use Rattle.paths.specs.Ranked.{Ranked}
use Rattle.cells.specs.declared.Cell.{Cell}
use Rattle.cells.specs.Cells.{nowhere}
use Rattle.cells.specs.Labels.{cell_at}
use Rattle.cells.specs.Trying.{label_from}
use Rattle.cells.specs.Laws.Trying.{label_there, label_none}
use Rattle.tables.specs.SumLabels as sumLabels
use Rattle.tables.proofs.SumLabels as sums
use Rattle.closing.specs.Closing.{sum_of, SumsPre, SumsClosed}
use Rattle.closing.proofs.Writing.{written_start, written_next}

-- ---- a sum

module _ (x : Cell) where
  pub sum_there : x.high < nowhere → sum_of x ≡ x.high / 256 * 4096 + x.low
  unfolding sum_of
  sum_there h = rw (lt-ltb x.high nowhere h)

  pub sum_none : nowhere ≤ x.high → sum_of x ≡ sumLabels.no_label
  unfolding sum_of
  sum_none h = rw (le-ltb x.high nowhere h)

  module _ (few : x.high < nowhere → (x.high < 2 ^ 59) × (x.low < 4096)) where
    sum_label : sumLabels.label_from (sum_of x) ≡ label_from x
    sum_label = go (dec_lt x.high nowhere)
      where
        go : Dec (x.high < nowhere) → sumLabels.label_from (sum_of x) ≡ label_from x
        go (yes h) =
            let n : sum_of x < sumLabels.no_label = omega (arith, sum_there h, few h) in
            let a : sum_of x / 4096 ≡ x.high / 256 = omega (arith, sum_there h, few h) in
            let b : sum_of x % 4096 ≡ x.low = omega (arith, sum_there h, few h) in
            let e : ◌≡◌ {A = Ranked 1} (sum_of x / 4096, sum_of x % 4096) (x.high / 256, x.low) = λ i. (a i, b i) in
            sums.label_some (sum_of x) n ∙ ap some e ∙ sym (label_there x h)
        go (no h) = sums.label_none (sum_of x) (omega (arith, sum_none (omega arith))) ∙ sym (label_none x (omega arith))

-- ---- the loop: the sums of the codes below n are written

pub sums_start : (work own : List ℕ) (base : ℕ) → SumsClosed work work own base 0
sums_start work own base = record { size = refl; written = written_start }

module _ {work work' own : List ℕ} {base n P : ℕ} (pre : SumsPre work own base P) (k : n < P) (B : SumsClosed work work' own base n) where
  pub sums_next : (x : ℕ) → x ≡ sum_of (cell_at own n) → SumsClosed work (set work' (base + n) x) own base (n + 1)
  sums_next x e = record {
    size = (simp length-set) ∙ B.size;
    written =
        written_next B.written (sym (ap sumLabels.label_from (get_or-set_same work' (base + n) x sumLabels.no_label (omega (arith, B.size, pre.nodes)) ∙ e) ∙ sum_label (cell_at own n) (pre.few n k)))
        (λ w o a h. h ∙ sym (ap sumLabels.label_from (get_or-set_other work' (base + n) w x sumLabels.no_label a)));
  }
