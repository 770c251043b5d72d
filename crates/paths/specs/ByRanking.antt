-- Counts by index, as a card's machines have them, under a ranking of the indices, highest first: their ranked cost.
use Rattle.std.specs.Prelude.{◌≡◌, refl, List, [], ◌∷◌, ℕ, zero, suc, ◌+◌, ◌<◌, length, get_or}
use Rattle.std.proofs.Common.{arith}
use Rattle.paths.specs.Ranked.{Ranked, add, letter_count, count_at}

-- the cost of the counts X and n letters under the ranking r
abbrev pub ranked : (r : List ℕ) → List ℕ → ℕ → Ranked (length r)
ranked [] X n = n
ranked (m ∷ r) X n = (get_or X m 0, ranked r X n)

pub ranked_letters : (r X : List ℕ) (n : ℕ) → letter_count (length r) (ranked r X n) ≡ n
ranked_letters [] X n = refl
ranked_letters (m ∷ r) X n = ranked_letters r X n

pub ranked_count : (r X : List ℕ) (n i : ℕ) → i < length r → count_at (length r) i (ranked r X n) ≡ get_or X (get_or r i 0) 0
ranked_count [] X n i h = absurd (omega arith)
ranked_count (m ∷ r) X n zero h = refl
ranked_count (m ∷ r) X n (suc i) h = ranked_count r X n i (omega arith)

-- ---- sums

-- Z has the sums of X and Y at the indices of r
abbrev pub Sums : List ℕ → List ℕ → List ℕ → List ℕ → Type 0
Sums [] Z X Y = Unit {0}
Sums (i ∷ r) Z X Y = (get_or Z i 0 ≡ get_or X i 0 + get_or Y i 0) × Sums r Z X Y

pub ranked_sum : (r Z X Y : List ℕ) (n m : ℕ) → Sums r Z X Y → ranked r Z (n + m) ≡ add (length r) (ranked r X n) (ranked r Y m)
ranked_sum [] Z X Y n m h = refl
ranked_sum (i ∷ r) Z X Y n m h = let q = ranked_sum r Z X Y n m h.1 in λ j. (h.0 j, q j)
