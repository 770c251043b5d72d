-- Writing the numbers of machines by their weights. Assumes nothing.
use Rattle.std.specs.Prelude.{◌≡◌, ◌⊎◌, ◌≢◌, ◌+◌, ◌*◌, ◌%◌, ◌<◌, ◌≤◌}
use Rattle.basics.specs.Words.{refl, ◌∙◌, List, inl, inr, ℕ, zero, suc, arith, length, get_or, set, take, replicate, length-set, length-replicate, List·getD-eq-default, get_or-set_same, get_or-set_other, get_or-take, length-take-le, ℕ_discrete, dec_lt}
use Rattle.tables.specs.Tables.{CountsOfSome}
use Rattle.tables.proofs.Counts.{few_counts}
use Rattle.cells.specs.Cells.{high_of, low_of}
use Rattle.cells.specs.Columns.{WeightsOf}
use Rattle.cells.specs.Scales.{ScalesWritten}
use Rattle.weighted.specs.Laws.Sound.{Sound}
use Rattle.weighted.specs.WeighsBy.{WeighsBy, HighsWritten}

pub highs_next : {weights xs ys : List ℕ} {n : ℕ} → HighsWritten weights xs ys n → 3 * n + 1 < length ys → (v : ℕ) → v ≡ 256 * get_or weights n 0 → HighsWritten weights xs (set ys (3 * n + 1) v) (n + 1)
highs_next {weights} {xs} {ys} {n} H room v e = record {
  size = (simp length-set) ∙ H.size;
  high = λ m h. high m h (ℕ_discrete m n);
  others = λ i h. get_or-set_other ys (3 * n + 1) i v 0 (apart i h) ∙ H.others i (still i h);
}
  where
    high : (m : ℕ) → m < n + 1 → Dec (m ≡ n) → high_of (set ys (3 * n + 1) v) m ≡ 256 * get_or weights m 0
    high m h (yes q) = rw q (get_or-set_same ys (3 * n + 1) v 0 room ∙ e)
    high m h (no q) = get_or-set_other ys (3 * n + 1) (3 * m + 1) v 0 (λ z. q (omega arith)) ∙ H.high m (omega arith)

    apart : (i : ℕ) → (i % 3 ≢ 1) ⊎ (3 * (n + 1) ≤ i) → i ≢ 3 * n + 1
    apart i (inl h) z = h (omega arith)
    apart i (inr h) z = omega arith

    still : (i : ℕ) → (i % 3 ≢ 1) ⊎ (3 * (n + 1) ≤ i) → (i % 3 ≢ 1) ⊎ (3 * n ≤ i)
    still i (inl h) = inl h
    still i (inr h) = inr (omega arith)

-- ---- all three numbers

-- what a part at the front has
module _ (xs : List ℕ) (n : ℕ) where
  front_in : (i : ℕ) → i < n → get_or (take n xs) i 0 ≡ get_or xs i 0
  front_in i h = get_or-take n xs i 0 h

  front_past : (i : ℕ) → n ≤ i → n ≤ length xs → get_or (take n xs) i 0 ≡ 0
  front_past i h k = List·getD-eq-default (take n xs) 0 (omega (arith, length-take-le n xs k))

zeros : (n i : ℕ) → get_or (replicate {A = ℕ} n 0) i 0 ≡ 0
zeros zero i = refl
zeros (suc n) zero = refl
zeros (suc n) (suc i) = zeros n i

module _ {counts weights : List ℕ} (C : CountsOfSome counts) (A : Sound (length counts) weights) {ys zs : List ℕ}
    (H : HighsWritten weights (replicate 18 0) ys (length weights)) (S : ScalesWritten counts ys zs 0) where
  long : 3 * length counts ≤ length zs
  long = omega (arith, few_counts C, S.size, H.size, length-replicate {A = ℕ} 18 0)

  pub numbers_by : WeighsBy weights (take (3 * length counts) zs)
  numbers_by = record { high = λ m. high m (dec_lt m (length counts)); low = λ m. low m (dec_lt m (length counts)) }
    where
      high : (m : ℕ) → Dec (m < length counts) → high_of (take (3 * length counts) zs) m ≡ 256 * get_or weights m 0
      high m (yes h) = front_in zs (3 * length counts) (3 * m + 1) (omega arith) ∙ S.others (3 * m + 1) (λ e. omega arith) ∙ H.high m (omega (arith, A.count))
      high m (no h) = front_past zs (3 * length counts) (3 * m + 1) (omega arith) long ∙ omega (arith, List·getD-eq-default weights 0 {n = m} (omega (arith, A.count)))

      low : (m : ℕ) → Dec (m < length counts) → low_of (take (3 * length counts) zs) m ≡ 0
      low m (yes h) = front_in zs (3 * length counts) (3 * m + 2) (omega arith) ∙ S.others (3 * m + 2) (λ e. omega arith) ∙ H.others (3 * m + 2) (inl (λ e. omega arith)) ∙ zeros 18 (3 * m + 2)
      low m (no h) = front_past zs (3 * length counts) (3 * m + 2) (omega arith) long

  pub numbers_of : WeightsOf counts (take (3 * length counts) zs)
  numbers_of = record {
    size = length-take-le (3 * length counts) zs long;
    scale = λ m h. front_in zs (3 * length counts) (3 * m) (omega arith) ∙ S.scale m (omega arith) h;
    whole = λ m. omega (arith, numbers_by.high m);
    high_few = λ m. omega (arith, numbers_by.high m, A.most m);
    low_few = λ m. omega (arith, numbers_by.low m);
  }
