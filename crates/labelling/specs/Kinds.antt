-- The two kinds of labels: ranked counts, where the slice of sums is empty, and sums.
use Rattle.basics.specs.Words.{Bool, List, ℕ, length, eqb}

-- the labels are ranked counts
abbrev pub in_counts : List ℕ → Bool
in_counts sums = eqb (length sums) 0
