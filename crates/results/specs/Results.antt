-- How the answers of the other calls stand as numbers for C.
use Rattle.std.specs.Prelude.{Bool, true, false, List, [], ◌∷◌, ◌++◌, ℕ, get_or}
use Rattle.tableau.specs.declared.Judged.{Judged}
use Rattle.live.specs.declared.Row.{Row}
use Rattle.live.specs.declared.Lead.{Lead}
use Rattle.weights.specs.declared.Weighing.{Weighing}
pub use Rattle.numbers.specs.Numbers.{evaluation_numbers, place_numbers, as_profile, order_number, deciding_machine, order_numbers, condition_numbers}

-- the six counts, the pair count, the word length and the sum, in thousandths
abbrev pub weighing_numbers : Weighing → List ℕ
weighing_numbers w = w.evaluation.profile.counts ++ (w.evaluation.pairs ∷ w.evaluation.word_length ∷ w.sum ∷ [])

-- the verdict and the row
abbrev pub judged_numbers : Judged → List ℕ
judged_numbers j = j.verdict ∷ j.row ∷ []

-- an id and six counts as a row
abbrev pub as_row : List ℕ → Row
as_row n = record { id = get_or n 0 0; profile = as_profile (get_or n 1 0 ∷ get_or n 2 0 ∷ get_or n 3 0 ∷ get_or n 4 0 ∷ get_or n 5 0 ∷ get_or n 6 0 ∷ []) }

-- 1 for true, 0 for false
abbrev pub flag_number : Bool → ℕ
flag_number true = 1
flag_number false = 0

-- 1 where there is a leader, its id, its six counts
abbrev pub lead_numbers : Lead → List ℕ
lead_numbers lead = flag_number lead.any ∷ lead.row.id ∷ lead.row.profile.counts
