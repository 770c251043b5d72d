-- What an ending costs: its marks, and no pair.
use Rattle.basics.specs.Words.{Option, some, none, ℕ, zero, suc}
use Rattle.paths.specs.Ranked.{Ranked}
use Rattle.tables.specs.Marks.{marks_cost}

-- a cost with no pair
abbrev pub without_pairs : (k : ℕ) → Ranked k → Ranked k
without_pairs zero c = 0
without_pairs (suc k) c = (c.0, without_pairs k c.1)

-- the cost of an ending, by the number of its marks
abbrev pub ending_cost : ℕ → Ranked 6
ending_cost e = without_pairs 6 (marks_cost e)

abbrev pub ending_costs : Option ℕ → Option (Ranked 6)
ending_costs none = none
ending_costs (some e) = some (ending_cost e)
