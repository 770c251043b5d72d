-- The labels of a stage in the work slice. Node u's numbers are its state, 0 where the stage has no label for it, six counts in ranked order, and the
-- number of pairs. The stage k finds the counts k; the counts below k are the fewest marks that the stages before found.
use Rattle.std.specs.Prelude.{◌+◌, ◌*◌}
use Rattle.basics.specs.Words.{cond, List, Option, none, some, ℕ, zero, suc, get_or, eqb}
use Rattle.paths.specs.Ranked.{Ranked}
use Rattle.tables.specs.Work.{state_of}

abbrev pub count_of : List ℕ → ℕ → ℕ → ℕ
count_of xs i u = get_or xs (u * 8 + 1 + i) 0

abbrev pub pair_count_of : List ℕ → ℕ → ℕ
pair_count_of xs u = get_or xs (u * 8 + 7) 0

-- the marks of the constraint k and the number of pairs
unfoldable pub stage_label : List ℕ → ℕ → ℕ → Option (Ranked 1)
stage_label xs k u = cond (eqb (state_of xs u) 0) none (some (count_of xs k u, pair_count_of xs u))

-- a number that falls when the label does
abbrev pub height : Option (Ranked 1) → ℕ
height none = 4294967296
height (some c) = c.0 * 65536 + c.1

-- the sum of those of the P nodes from b on
unfoldable pub total : (ℕ → Option (Ranked 1)) → ℕ → ℕ → ℕ
total L b zero = 0
total L b (suc P) = height (L (b + P)) + total L b P
