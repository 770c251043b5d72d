-- The places of columns: at most 40 for an accepted card, and at most 21 if it has at most 16 joint states.
use Rattle.std.specs.Prelude.{◌≡◌, ◌∷◌, ◌+◌, ◌*◌, ◌<◌, ◌≤◌}
use Rattle.basics.specs.Words.{ap, List, [], ℕ, zero, suc, arith, length, get_or, take, mul-le-mul_right, suc-mul, dec_lt, product}
use Rattle.tables.specs.Tables.{CountsOfSome}
use Rattle.tables.proofs.Counts.{few_counts, all_positive, few_states_lem, count_few}
use Rattle.cells.specs.Cells.{places}
use Rattle.columns.specs.Laws.PlaceCount.{few_places, small_places}

-- the places of a machine come before those of the later ones
pub places_before : (counts : List ℕ) (m n : ℕ) → m < n → n ≤ length counts → places (take m counts) + get_or counts m 0 ≤ places (take n counts)
unfolding places
places_before [] m n h l = absurd (omega arith)
places_before (q ∷ qs) m zero h l = absurd (omega arith)
places_before (q ∷ qs) zero (suc n) h l = omega arith
places_before (q ∷ qs) (suc m) (suc n) h l = omega (arith, places_before qs m n (omega arith) (omega arith))

pub places_few : {counts : List ℕ} → CountsOfSome counts → places counts ≤ 40
places_few {counts} C = few_places counts (all_positive C) (few_counts C) (count_few C) (few_states_lem C)

pub places_small : {counts : List ℕ} → CountsOfSome counts → product counts ≤ 16 → places counts ≤ 21
places_small {counts} C h = small_places counts (all_positive C) (few_counts C) (count_few C) h

-- a place of a column is in no other column
pub another_output : (W y z p q : ℕ) → p < W → q < W → (y ≡ z → ⊥) → y * W + p ≡ z * W + q → ⊥
another_output W y z p q a b n e = go (dec_lt y z)
  where
    go : Dec (y < z) → ⊥
    go (yes h) = let k : suc y * W ≤ z * W = mul-le-mul_right W h in omega (arith, suc-mul y W)
    go (no h) = let k : suc z * W ≤ y * W = mul-le-mul_right W (omega arith) in omega (arith, suc-mul z W)

pub another_place : (W y z p q : ℕ) → p < W → q < W → (p ≡ q → ⊥) → y * W + p ≡ z * W + q → ⊥
another_place W y z p q a b n e = go (dec_lt y z) (dec_lt z y)
  where
    go : Dec (y < z) → Dec (z < y) → ⊥
    go (yes h) d = let k : suc y * W ≤ z * W = mul-le-mul_right W h in omega (arith, suc-mul y W)
    go (no h) (yes l) = let k : suc z * W ≤ y * W = mul-le-mul_right W l in omega (arith, suc-mul z W)
    go (no h) (no l) = let k : y ≡ z = omega arith in n (omega (arith, ap (λ (i : ℕ). i * W) k))
