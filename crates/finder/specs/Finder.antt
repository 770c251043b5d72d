-- The smallest ranking that fits a list of conditions.
use Rattle.std.specs.Prelude.{Result, Ok, Err, ◌&&◌, ◌∷◌, ◌++◌, ◌-◌, ◌^◌, ◌%◌}
use Rattle.basics.specs.Words.{Bool, not, List, [], Option, some, none, ℕ, length, replicate, eqb, ltb, leb, all_of, every_below, first_that, member}
use Rattle.refusals.specs.declared.Refusal.{Refusal}
use Rattle.refusals.specs.Refusals.{refuse, first_of, unless_refused, number_of}
use Rattle.finder.specs.declared.Finding.{Finding}
use Rattle.ranking.specs.declared.Condition.{Condition}
use Rattle.ranking.specs.Rankings.{is_machine_count, rankings}
use Rattle.ranking.specs.Conditions.{fits}

-- the conditions of a list of byte pairs, W before L
unfoldable pub conditions_of : List ℕ → List Condition
conditions_of [] = []
conditions_of (w ∷ []) = []
conditions_of (w ∷ l ∷ rest) = record { fewer = w; more = l } ∷ conditions_of rest

-- two bytes, as sets, do not meet
unfoldable pub disjoint : ℕ → ℕ → Bool
disjoint a b = every_below (λ i. not (member a i && member b i)) 8

-- W and L do not meet, and no bit is K or above
unfoldable pub sound_condition : ℕ → Condition → Bool
sound_condition K c = disjoint c.fewer c.more && ltb c.fewer (2 ^ K) && ltb c.more (2 ^ K)

-- the list is even in length and of at most 64 pairs, and each condition is sound
unfoldable pub sound_list : ℕ → List ℕ → Bool
sound_list K l = eqb (length l % 2) 0 && leb (length l) 128 && all_of (sound_condition K) (conditions_of l)

-- the first, in the order of byte strings, of all rankings that fit every condition
unfoldable pub smallest : ℕ → List Condition → Option (List ℕ)
smallest K cs = first_that (λ r. all_of (fits r) cs) (rankings K)

-- a refusal carries its number, and every place is 0
abbrev pub refused_finding : ℕ → Finding
refused_finding n = record { number = n; ranking = replicate 6 0 }

abbrev pub found : Result (List ℕ) Refusal → Finding
found (Ok r) = record { number = 0; ranking = r }
found (Err e) = refused_finding (number_of e)

-- the ranking, places from K on 0; or refusal 16, where none of the K! fits
abbrev pub finding_of : ℕ → Option (List ℕ) → Finding
finding_of K none = refused_finding 16
finding_of K (some r) = record { number = 0; ranking = r ++ replicate (6 - K) 0 }

-- what the finder answers: refusals 1 and 15 come before any search
unfoldable pub finding : ℕ → List ℕ → Finding
finding K l =
    unless_refused (first_of (refuse 1 (is_machine_count K) ∷ refuse 15 (sound_list K l) ∷ [])) (finding_of K (smallest K (conditions_of l))) refused_finding
