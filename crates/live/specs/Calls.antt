-- What add, remove and the leader's call answer, and what the first two leave in the lent list.
use Rattle.std.specs.Prelude.{◌≡◌, ◌∷◌, ◌+◌, ◌-◌}
use Rattle.basics.specs.Words.{not, List, [], ℕ, length, take}
use Rattle.refusals.specs.Refusals.{refuse, first_of, unless_refused}
use Rattle.ranking.specs.Rankings.{is_machine_count, is_ranking}
use Rattle.live.specs.declared.Row.{Row}
use Rattle.live.specs.declared.Counted.{Counted}
use Rattle.live.specs.declared.Lead.{Lead}
use Rattle.live.specs.Rows.{present, added, removed, fits, has_room, leader_of, counted, refused_count, unled, lead_answer}

module _ (K : ℕ) (ranking : List ℕ) (count : ℕ) (l : List Row) where
  -- the checks of an add, of a removal, of the leader's call
  abbrev pub adding_refusal : ℕ → ℕ
  adding_refusal id = first_of (refuse 1 (is_machine_count K) ∷ refuse 7 (is_ranking K ranking) ∷ refuse 23 (has_room count (length l)) ∷ refuse 24 (not (present id (take count l))) ∷ [])

  abbrev pub removing_refusal : ℕ → ℕ
  removing_refusal id = first_of (refuse 1 (is_machine_count K) ∷ refuse 7 (is_ranking K ranking) ∷ refuse 23 (fits count (length l)) ∷ refuse 24 (present id (take count l)) ∷ [])

  abbrev pub leading_refusal : ℕ
  leading_refusal = first_of (refuse 1 (is_machine_count K) ∷ refuse 7 (is_ranking K ranking) ∷ refuse 23 (fits count (length l)) ∷ [])

  -- the answers, and the list at exit
  abbrev pub adding : Row → Counted
  adding row = unless_refused (adding_refusal row.id) (counted (count + 1)) refused_count

  abbrev pub added_list : Row → List Row
  added_list row = unless_refused (adding_refusal row.id) (added count l row) (λ n. l)

  abbrev pub removing : ℕ → Counted
  removing id = unless_refused (removing_refusal id) (counted (count - 1)) refused_count

  abbrev pub removed_list : ℕ → List Row
  removed_list id = unless_refused (removing_refusal id) (removed id count l) (λ n. l)

  abbrev pub leading : Lead
  leading = unless_refused leading_refusal (lead_answer (leader_of ranking (take count l))) unled

-- add's whole answer and list at exit, m
pub record Adds (K : ℕ) (ranking : List ℕ) (count : ℕ) (l m : List Row) (row : Row) (answer : Counted) : Type 0 where
  pub answers : answer ≡ adding K ranking count l row
  pub leaves : m ≡ added_list K ranking count l row

-- remove's
pub record Removes (K : ℕ) (ranking : List ℕ) (count : ℕ) (l m : List Row) (id : ℕ) (answer : Counted) : Type 0 where
  pub answers : answer ≡ removing K ranking count l id
  pub leaves : m ≡ removed_list K ranking count l id
