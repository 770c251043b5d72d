-- The lists of insertions have marks as numbers: what settling makes of them by the weights is what the machines' numbers make of them.
use Rattle.std.specs.Prelude.{◌≡◌, ◌∷◌, ◌⊎◌, ◌+◌, ◌*◌, ◌/◌, ◌%◌, ◌^◌, ◌<◌, ◌≤◌}
use Rattle.basics.specs.Words.{refl, sym, ◌∙◌, ap, List, [], inl, inr, ℕ, zero, suc, arith, length, get_or, set, length-set, List·getD-eq-default, mul_comm, zero-mul, dec_lt}
use Rattle.tables.specs.Places.{mark_number}
use Rattle.tables.specs.Laws.Packing.{six_number}
use Rattle.settling.specs.Prices.{SixWeights, marks_price, most_price, no_lows}
use Rattle.cells.specs.Cells.{high_of, low_of}
use Rattle.cells.specs.Columns.{weighed}
use Rattle.machine_weights.specs.Highs.{six_highs}
use Rattle.labelling.specs.Laws.Tied.{SamePrices}
use Rattle.weighted.specs.WeighsBy.{WeighsBy}
use Rattle.weighted.specs.FirstPlace.{first_put}
use Rattle.weighted.specs.Laws.Sound.{Sound}
use Rattle.weighted.specs.Laws.FirstPlace.{placed_at, first_high, six_placed}

-- marks of at most six machines, one by one
pub six_terms : (w : ℕ → ℕ) (xs : List ℕ) → length xs ≤ 6
    → weighed w 0 xs ≡ w 0 * get_or xs 0 0 + (w 1 * get_or xs 1 0 + (w 2 * get_or xs 2 0 + (w 3 * get_or xs 3 0 + (w 4 * get_or xs 4 0 + w 5 * get_or xs 5 0))))
unfolding weighed
six_terms w [] h = omega arith
six_terms w (a ∷ []) h = omega (arith, mul_comm a (w 0))
six_terms w (a ∷ b ∷ []) h = omega (arith, mul_comm a (w 0), mul_comm b (w 1))
six_terms w (a ∷ b ∷ c ∷ []) h = omega (arith, mul_comm a (w 0), mul_comm b (w 1), mul_comm c (w 2))
six_terms w (a ∷ b ∷ c ∷ d ∷ []) h = omega (arith, mul_comm a (w 0), mul_comm b (w 1), mul_comm c (w 2), mul_comm d (w 3))
six_terms w (a ∷ b ∷ c ∷ d ∷ e ∷ []) h = omega (arith, mul_comm a (w 0), mul_comm b (w 1), mul_comm c (w 2), mul_comm d (w 3), mul_comm e (w 4))
six_terms w (a ∷ b ∷ c ∷ d ∷ e ∷ f ∷ []) h = omega (arith, mul_comm a (w 0), mul_comm b (w 1), mul_comm c (w 2), mul_comm d (w 3), mul_comm e (w 4), mul_comm f (w 5))
six_terms w (a ∷ b ∷ c ∷ d ∷ e ∷ f ∷ g ∷ r) h = absurd (omega arith)

-- marks packed into a number, one by one
module _ (a b c d e f : ℕ) (ha : a ≤ 15) (hb : b ≤ 15) (hc : c ≤ 15) (hd : d ≤ 15) (he : e ≤ 15) (hf : f ≤ 15) where
  abbrev packed : ℕ
  packed = a * 1048576 + (b * 65536 + (c * 4096 + (d * 256 + (e * 16 + f))))

  first : packed / 1048576 ≡ a
  first = omega arith

  second : packed / 65536 % 16 ≡ b
  second = let q : packed / 65536 ≡ a * 16 + b = omega arith in omega arith

  third : packed / 4096 % 16 ≡ c
  third = let q : packed / 4096 ≡ a * 256 + (b * 16 + c) = omega arith in omega arith

  fourth : packed / 256 % 16 ≡ d
  fourth = let q : packed / 256 ≡ a * 4096 + (b * 256 + (c * 16 + d)) = omega arith in omega arith

  fifth : packed / 16 % 16 ≡ e
  fifth = let q : packed / 16 ≡ a * 65536 + (b * 4096 + (c * 256 + (d * 16 + e))) = omega arith in omega arith

  sixth : packed % 16 ≡ f
  sixth = omega arith

  packed_price : (ns : List ℕ) → marks_price ns packed ≡ get_or ns 0 0 * a + (get_or ns 1 0 * b + (get_or ns 2 0 * c + (get_or ns 3 0 * d + (get_or ns 4 0 * e + get_or ns 5 0 * f))))
  unfolding marks_price
  packed_price ns = λ i. get_or ns 0 0 * first i + (get_or ns 1 0 * second i + (get_or ns 2 0 * third i + (get_or ns 3 0 * fourth i + (get_or ns 4 0 * fifth i + get_or ns 5 0 * sixth i))))

-- six numbers for places price the number of marks, where at each place stands the machine that counts this number, or it counts nothing; the first
-- machine may have changed places with another one
place_price : (places ns : List ℕ) (w : ℕ → ℕ) (k : ℕ) → k < 6 → length places ≡ 6 → ((m : ℕ) → m < 6 → (get_or ns m 0 ≡ w (placed_at k m)) × ((get_or places m 0 ≡ placed_at k m) ⊎ (w (placed_at k m) ≡ 0)))
    → (marks : List ℕ) → length marks ≤ 6 → ((m : ℕ) → get_or marks m 0 ≤ 15) → marks_price ns (mark_number places marks) ≡ weighed w 0 marks
unfolding marks_price
place_price places ns w k below size same marks few most =
    (λ i. marks_price ns (six_number places marks size i))
    ∙ packed_price (at 0) (at 1) (at 2) (at 3) (at 4) (at 5) (most (get_or places 0 0)) (most (get_or places 1 0)) (most (get_or places 2 0)) (most (get_or places 3 0)) (most (get_or places 4 0)) (most (get_or places 5 0)) ns
    ∙ omega (arith, part 0 (omega arith), part 1 (omega arith), part 2 (omega arith), part 3 (omega arith), part 4 (omega arith), part 5 (omega arith), six_placed term k below, six_terms w marks few)
  where
    at : ℕ → ℕ
    at m = get_or marks (get_or places m 0) 0

    term : ℕ → ℕ
    term m = w m * get_or marks m 0

    part : (m : ℕ) → m < 6 → get_or ns m 0 * at m ≡ term (placed_at k m)
    part m h = go (same m h).1
      where
        go : (get_or places m 0 ≡ placed_at k m) ⊎ (w (placed_at k m) ≡ 0) → get_or ns m 0 * at m ≡ term (placed_at k m)
        go (inl e) = let p = (same m h).0 in λ i. p i * get_or marks (e i) 0
        go (inr z) = ap (λ (n : ℕ). n * at m) ((same m h).0 ∙ z) ∙ zero-mul (at m) ∙ sym (ap (λ (n : ℕ). n * get_or marks (placed_at k m) 0) z ∙ zero-mul (get_or marks (placed_at k m) 0))

no_low : (m : ℕ) → get_or no_lows m 0 ≡ 0
no_low zero = refl
no_low (suc zero) = refl
no_low (suc (suc zero)) = refl
no_low (suc (suc (suc zero))) = refl
no_low (suc (suc (suc (suc zero)))) = refl
no_low (suc (suc (suc (suc (suc zero))))) = refl
no_low (suc (suc (suc (suc (suc (suc m)))))) = refl

-- the lists have marks by these places
pub record FirstPlaced (places ws : List ℕ) (k : ℕ) : Type 0 where
  pub size : length places ≡ 6
  pub below : k < 6
  pub place : (m : ℕ) → m < 6 → (get_or places m 0 ≡ placed_at k m) ⊎ (high_of ws (placed_at k m) ≡ 0)

pub weights_tie : {places weights ws : List ℕ} {k : ℕ} → WeighsBy weights ws → FirstPlaced places ws k → SamePrices places (first_put k (six_highs ws)) no_lows ws
weights_tie {places} {ws = ws} {k} W O = record {
  high = place_price places (first_put k (six_highs ws)) (high_of ws) k O.below O.size (λ m h. (first_high ws k m O.below h, O.place m h));
  low = place_price places no_lows (low_of ws) k O.below O.size (λ m h. (omega (arith, no_low m, W.low (placed_at k m)), inr (W.low (placed_at k m))));
}

-- what settling asks of the weights
module _ {K : ℕ} {weights ws : List ℕ} (A : Sound K weights) (W : WeighsBy weights ws) where
  high_few : (m : ℕ) → high_of ws m ≤ 1024000000000
  high_few m = omega (arith, W.high m, A.most m)

  pub highs_few : (k : ℕ) → k < 6 → SixWeights (first_put k (six_highs ws))
  highs_few k h = record { most = λ m. most m (dec_lt m 6) }
    where
      most : (m : ℕ) → Dec (m < 6) → get_or (first_put k (six_highs ws)) m 0 ≤ 2 ^ 48
      most m (yes b) = omega (arith, first_high ws k m h b, high_few (placed_at k m))
      most m (no b) = omega (arith, List·getD-eq-default (first_put k (six_highs ws)) 0 {n = m} (omega (arith, length-set (set (six_highs ws) 0 (get_or (six_highs ws) k 0)) k (get_or (six_highs ws) 0 0), length-set (six_highs ws) 0 (get_or (six_highs ws) k 0))))

  pub high_most : most_price (six_highs ws) ≤ 92160000000000
  unfolding most_price
  high_most = omega (arith, high_few 0, high_few 1, high_few 2, high_few 3, high_few 4, high_few 5)

pub low_most : most_price no_lows ≡ 0
unfolding most_price
low_most = refl
