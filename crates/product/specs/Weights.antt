-- Weights, one per machine in card order, in whole thousandths: a profile's sum, the order of the sums, and the best candidate in that order.
use Rattle.std.specs.Prelude.{◌&&◌, ◌∷◌, ◌+◌, ◌*◌}
use Rattle.basics.specs.Words.{Bool, List, [], Option, ℕ, length, eqb, leb, ltb, all_of}
use Rattle.product.specs.Best.{Contender, ProfileOrder, best_in}

-- one weight per machine, 0 to 4,000,000,000
unfoldable pub sound_weights : ℕ → List ℕ → Bool
sound_weights K weights = eqb (length weights) K && all_of (λ w. leb w 4000000000) weights

-- the sum of weight × count
unfoldable pub weighted_sum : List ℕ → List ℕ → ℕ
weighted_sum [] v = 0
weighted_sum (w ∷ weights) [] = 0
weighted_sum (w ∷ weights) (n ∷ v) = w * n + weighted_sum weights v

-- the smaller sum is better
abbrev pub by_sum : List ℕ → ProfileOrder
by_sum weights v w = ltb (weighted_sum weights v) (weighted_sum weights w)

-- the smallest sum; then fewest pairs; then the smallest byte string
unfoldable pub best_by_weights : List ℕ → List ℕ → List ℕ → Option Contender
best_by_weights card weights word = best_in (by_sum weights) card word
