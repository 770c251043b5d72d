-- Numbers written into a row, one after the other. Assumes nothing.
use Rattle.std.specs.Prelude.{◌≡◌, ◌+◌, ◌<◌, ◌≤◌}
use Rattle.basics.specs.Words.{◌∙◌, List, ℕ, arith, length, get_or, set, length-set, get_or-set_same, get_or-set_other, ℕ_discrete}

pub record RowTo (f : ℕ → ℕ) (n : ℕ) (ys : List ℕ) (y : ℕ) : Type 0 where
  pub within : y ≤ n
  pub size : n ≤ length ys
  pub done : (k : ℕ) → k < y → get_or ys k 0 ≡ f k

module _ (f : ℕ → ℕ) (n : ℕ) where
  pub row_next : {ys : List ℕ} {y : ℕ} → RowTo f n ys y → y < n → (v : ℕ) → v ≡ f y → RowTo f n (set ys y v) (y + 1)
  row_next {ys} {y} R h v e = record { within = omega arith; size = omega (arith, length-set ys y v, R.size); done = λ k l. done k l (ℕ_discrete k y) }
    where
      done : (k : ℕ) → k < y + 1 → Dec (k ≡ y) → get_or (set ys y v) k 0 ≡ f k
      done k l (yes q) = rw q (get_or-set_same ys y v 0 (omega (arith, R.size)) ∙ e)
      done k l (no q) = get_or-set_other ys y k v 0 q ∙ R.done k (omega arith)
