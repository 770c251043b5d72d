-- The steps by which the code finds, moves and compares rows.
use Rattle.std.specs.Prelude.{◌∷◌, ◌+◌, ◌-◌}
use Rattle.basics.specs.Words.{Bool, true, false, List, [], ℕ, zero, suc, get_or, set, take}
use Rattle.ranking.specs.Harmony.{better}
use Rattle.live.specs.declared.Row.{Row}
use Rattle.live.specs.declared.Lead.{Lead}
use Rattle.live.specs.Rows.{zero_row, has_id, present, added, removed, led, unled}

-- the row at a place
abbrev pub row_at : List Row → ℕ → Row
row_at l i = get_or l i zero_row

-- the place of the first row with an id, or how many rows there are
unfoldable pub place : ℕ → List Row → ℕ
place id [] = 0
place id (row ∷ rows) = elim (has_id id row) [ true ↦ 0 | false ↦ suc (place id rows) ]

-- n records from a place are set to the one behind them, and the one after these to zeros
unfoldable pub closing_by : ℕ → ℕ → List Row → List Row
closing_by zero at l = set l at zero_row
closing_by (suc n) at l = closing_by n (at + 1) (set l at (row_at l (at + 1)))

abbrev pub closing : ℕ → ℕ → List Row → List Row
closing at last l = closing_by (last - at) at l

-- a row is put in unless its id is present
unfoldable pub putting_in : ℕ → List Row → Row → List Row
putting_in count l row = elim (present row.id (take count l)) [ true ↦ l | false ↦ added count l row ]

-- a row is taken out if its id is present
unfoldable pub taking_out : ℕ → ℕ → List Row → List Row
taking_out id count l = elim (present id (take count l)) [ true ↦ removed id count l | false ↦ l ]

-- the better of two rows under a ranking, the second where neither is better
abbrev pub first_if : Bool → Row → Row → Row
first_if true row best = row
first_if false row best = best

abbrev pub better_of : List ℕ → Row → Row → Row
better_of ranking row best = first_if (better ranking row.profile.counts best.profile.counts) row best

-- the best of a row and those that arrived after it, row by row
unfoldable pub best_from : List ℕ → Row → List Row → Row
best_from ranking best [] = best
best_from ranking best (row ∷ rows) = best_from ranking (better_of ranking row best) rows

unfoldable pub leader_down : List ℕ → List Row → Lead
leader_down ranking [] = unled 0
leader_down ranking (row ∷ rows) = led (best_from ranking row rows)
