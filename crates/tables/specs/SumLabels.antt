-- A label as one number: the sum times 4,096 and the number of pairs. Of two labels the lesser has the lesser number, and numbers add up as labels do:
-- a best path has fewer than 4,096 pairs.
use Rattle.std.specs.Prelude.{◌/◌, ◌%◌}
use Rattle.basics.specs.Words.{cond, List, Option, some, none, ℕ, get_or, ltb}
use Rattle.paths.specs.Ranked.{Ranked}

-- the number of a node that has no label
abbrev pub no_label : ℕ
no_label = 18446744073709551615

abbrev pub cost_of : ℕ → Ranked 1
cost_of x = (x / 4096, x % 4096)

unfoldable pub label_from : ℕ → Option (Ranked 1)
label_from x = cond (ltb x no_label) (some (cost_of x)) none

-- a number for each node; past the end there is no label
abbrev pub label_of : List ℕ → ℕ → Option (Ranked 1)
label_of xs u = label_from (get_or xs u no_label)
