-- The joint step of a column at some places, machine by machine. Assumes nothing.
use Rattle.std.specs.Prelude.{◌≡◌, ◌+◌, ◌*◌, ◌^◌, ◌<◌, ◌≤◌}
use Rattle.basics.proofs.Words.{sym, ◌∙◌, ap, List, ℕ, suc, arith, length, get_or, drop, drop-cons, suc-mul, left_none}
use Rattle.cells.specs.Cells.{nowhere, high_cell, low_cell, scale_of, high_of, low_of, high_at, low_at}
use Rattle.cells.specs.Laws.Joint.{cell_of_none}
use Rattle.cells.specs.Laws.Numbers.{marks_high, marks_low, scaled_few, some_step}
use Rattle.passing.specs.Places.{ColumnsPre}
use Rattle.tight.specs.Joint.{place_sum, WeightsFit, high_by, JointAt}

-- the first place, and the rest
sum_next : (cell : ℕ → ℕ → ℕ) (k : ℕ) (ps : List ℕ) (m : ℕ) → m < length ps → place_sum cell k (drop m ps) ≡ cell k (get_or ps m 0) + place_sum cell (suc k) (drop (suc m) ps)
unfolding place_sum
sum_next cell k ps m h = ap (place_sum cell k) (drop-cons ps m 0 h)

sum_end : (cell : ℕ → ℕ → ℕ) (k : ℕ) (ps : List ℕ) (m : ℕ) → length ps ≤ m → place_sum cell k (drop m ps) ≡ 0
unfolding place_sum
sum_end cell k ps m h = ap (place_sum cell k) (left_none ps m h)

-- the sum of the first m machines' cells, each at most `most`
pub record SumTo (cell : ℕ → ℕ → ℕ) (ps : List ℕ) (most m s : ℕ) : Type 0 where
  pub sum : s + place_sum cell m (drop m ps) ≡ place_sum cell 0 ps
  pub few : s ≤ m * most

module _ (cell : ℕ → ℕ → ℕ) (ps : List ℕ) (most : ℕ) where
  pub sum_start : SumTo cell ps most 0 0
  sum_start = record { sum = omega arith; few = omega arith }

  pub sum_more : {m s : ℕ} → SumTo cell ps most m s → m < length ps → (v : ℕ) → v ≡ cell m (get_or ps m 0) → v ≤ most → SumTo cell ps most (m + 1) (s + v)
  sum_more {m} {s} I h v e l = record {
    sum = let one : m + 1 ≡ suc m = omega arith in omega (arith, I.sum, sum_next cell m ps m h, ap (λ (k : ℕ). place_sum cell k (drop k ps)) one);
    few = let one : m + 1 ≡ suc m = omega arith in omega (arith, I.few, suc-mul m most, ap (λ (k : ℕ). k * most) one);
  }

  pub sum_whole : {m s : ℕ} → SumTo cell ps most m s → length ps ≤ m → s ≡ place_sum cell 0 ps
  sum_whole {m} I h = omega (arith, I.sum, sum_end cell m ps m h)

  -- a cell is at most the sum
  pub sum_over_lem : {m s : ℕ} → SumTo cell ps most m s → m < length ps → cell m (get_or ps m 0) ≤ place_sum cell 0 ps
  sum_over_lem {m} I h = omega (arith, I.sum, sum_next cell m ps m h)

-- ---- the cells of a column

module _ {steps ps : List ℕ} {W : ℕ} (pre : ColumnsPre steps ps W) where
  module _ {ws : List ℕ} (Z : WeightsFit ws (length ps)) (y : ℕ) (small : (i : ℕ) → get_or steps i 0 ≤ 65535) where
    abbrev pub Highs : (m s : ℕ) → Type 0
    Highs = SumTo (high_at steps ws W y) ps (2 ^ 56)

    abbrev pub Lows : (m s : ℕ) → Type 0
    Lows = SumTo (low_at steps ws W y) ps (15 * 2 ^ 48)

    module _ {m high low : ℕ} (H : Highs m high) (L : Lows m low) where
      -- every machine takes one
      pub joint_whole : m ≤ length ps → length ps ≤ m → (high < nowhere) × JointAt steps ps ws W y (record { high = high; low = low })
      joint_whole few h =
          let a = sum_whole (high_at steps ws W y) ps (2 ^ 56) H h in
          let b = sum_whole (low_at steps ws W y) ps (15 * 2 ^ 48) L h in
          (omega (arith, H.few, pre.few), record { high = λ k. a; low = λ k. b; nothing = λ k. omega (arith, a) })

      module _ (h : m < length ps) (at : ℕ) (is : at ≡ get_or ps m 0) where
        abbrev step : ℕ
        step = get_or steps (y * W + at) 0

        -- the machine takes no step
        pub joint_none : step ≡ 65535 → nowhere ≤ high_by steps ps ws W y
        joint_none e = omega (arith, cell, sum_over_lem (high_at steps ws W y) ps (2 ^ 56) H h)
          where
            cell : high_at steps ws W y m (get_or ps m 0) ≡ nowhere
            cell = ap (λ (p : ℕ). high_at steps ws W y m p) (sym is) ∙ ap (high_cell (scale_of ws m) (high_of ws m)) e ∙ cell_of_none (scale_of ws m) (high_of ws m)

        pub highs_next : (step ≡ 65535 → ⊥) → (v : ℕ) → v ≡ high_cell (scale_of ws m) (high_of ws m) step → Highs (m + 1) (high + v)
        highs_next n v e =
            sum_more (high_at steps ws W y) ps (2 ^ 56) H h v
            (e ∙ ap (λ (p : ℕ). high_at steps ws W y m p) is)
            (omega (arith, e, some_step step (scale_of ws m) (high_of ws m) n, scaled_few step (scale_of ws m) (small (y * W + at)) (Z.scale m h), marks_high step (high_of ws m) (Z.high_few m)))

        pub lows_next : (v : ℕ) → v ≡ low_cell (low_of ws m) step → Lows (m + 1) (low + v)
        lows_next v e =
            sum_more (low_at steps ws W y) ps (15 * 2 ^ 48) L h v
            (e ∙ ap (λ (p : ℕ). low_at steps ws W y m p) is)
            (omega (arith, e, marks_low step (low_of ws m) (Z.low_few m)))

        -- the sums fit
        pub highs_fit : (step ≡ 65535 → ⊥) → (v : ℕ) → v ≡ high_cell (scale_of ws m) (high_of ws m) step → high + v ≤ 6 * 2 ^ 56
        highs_fit n v e = omega (arith, (highs_next n v e).few, pre.few)

        pub lows_fit : (v : ℕ) → v ≡ low_cell (low_of ws m) step → low + v ≤ 6 * (15 * 2 ^ 48)
        lows_fit v e = omega (arith, (lows_next v e).few, pre.few)
