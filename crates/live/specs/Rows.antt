-- The rows of a live tableau, in order of arrival, and what a list of records is after a row is added or removed: its first records are the rows.
use Rattle.std.specs.Prelude.{Result, Ok, Err, Option as Answer, Some, None, ◌||◌, ◌∷◌, ◌++◌}
use Rattle.basics.specs.Words.{Bool, true, false, not, List, [], Option, some, none, ℕ, set, take, drop, eqb, all_of, first_that}
use Rattle.refusals.specs.declared.Refusal.{Refusal}
use Rattle.refusals.specs.Refusals.{number_of}
use Rattle.ranking.specs.Profiles.{zero_profile}
use Rattle.ranking.specs.Harmony.{better}
use Rattle.live.specs.declared.Counted.{Counted}
use Rattle.live.specs.declared.Lead.{Lead}
use Rattle.live.specs.declared.Row.{Row}
pub use Rattle.live_checks.specs.Room.{fits, has_room}

-- what a freed record is set to
abbrev pub zero_row : Row
zero_row = record { id = 0; profile = zero_profile }

-- whether a row has an id
abbrev pub has_id : ℕ → Row → Bool
has_id id row = eqb row.id id

-- whether some row has an id
unfoldable pub present : ℕ → List Row → Bool
present id [] = false
present id (row ∷ rows) = has_id id row || present id rows

-- the rows without the first that has an id
unfoldable pub without : ℕ → List Row → List Row
without id [] = []
without id (row ∷ rows) = elim (has_id id row) [ true ↦ rows | false ↦ row ∷ without id rows ]

-- a row that has another id
abbrev pub lacks : ℕ → Row → Bool
lacks id row = not (has_id id row)

-- two rows have different ids
abbrev pub differ : Row → Row → Bool
differ row other = lacks row.id other

-- a list after a row is added: the record behind the rows is set to it
abbrev pub added : ℕ → List Row → Row → List Row
added count l row = set l count row

-- a list after the first row with an id is taken out: the later rows moved up, zeros in the freed last record
abbrev pub removed : ℕ → ℕ → List Row → List Row
removed id count l = without id (take count l) ++ (zero_row ∷ drop count l)

-- no row has a better profile
abbrev pub unbeaten : List ℕ → List Row → Row → Bool
unbeaten ranking rows row = all_of (λ (other : Row). not (better ranking other.profile.counts row.profile.counts)) rows

-- the best profile, the earliest arrival among equals, or none
abbrev pub leader_of : List ℕ → List Row → Option Row
leader_of ranking rows = first_that (unbeaten ranking rows) rows

-- the answers: a row count and a leader, or a refusal's number and zeros
abbrev pub counted : ℕ → Counted
counted count = record { number = 0; count = count }

abbrev pub refused_count : ℕ → Counted
refused_count n = record { number = n; count = 0 }

abbrev pub led : Row → Lead
led row = record { number = 0; any = true; row = row }

abbrev pub unled : ℕ → Lead
unled n = record { number = n; any = false; row = zero_row }

abbrev pub lead_answer : Option Row → Lead
lead_answer none = unled 0
lead_answer (some row) = led row

abbrev pub counted_of : Result ℕ Refusal → Counted
counted_of (Ok count) = counted count
counted_of (Err r) = refused_count (number_of r)

abbrev pub lead_of : Result (Answer Row) Refusal → Lead
lead_of (Ok (Some row)) = led row
lead_of (Ok None) = unled 0
lead_of (Err r) = unled (number_of r)
