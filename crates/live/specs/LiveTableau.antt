-- For every list of adds and removals from an empty table, rows and leader are those worked out afresh from the ids added and not since removed:
-- what that says. The theorem is live_tableau, of proofs/LiveTableau.
use Rattle.std.specs.Prelude.{◌≡◌, ◌∷◌}
use Rattle.basics.proofs.Words.{true, not, List, [], ℕ, length, take, pairwise}
use Rattle.refusals.specs.Refusals.{refuse, first_of}
use Rattle.ranking.specs.Rankings.{is_machine_count, is_ranking}
use Rattle.live.specs.declared.Row.{Row}
use Rattle.live.specs.Rows.{present, differ, has_room, leader_of, lead_answer}
use Rattle.live.specs.Calls.{adding_refusal, removing_refusal, leading}
use Rattle.live.specs.Afresh.{Call, Table, Ran, afresh}

-- the table t after calls of which those accepted are done, from an empty table over a list as long as l
pub record WorkedOut (K : ℕ) (ranking : List ℕ) (l : List Row) (t : Table) (done : List Call) : Type 0 where
  -- the rows, and how many there are; no id stands twice among them
  pub rows : take t.count t.list ≡ afresh done
  pub count : t.count ≡ length (afresh done)
  pub once : pairwise differ (afresh done) ≡ true
  pub long : length t.list ≡ length l
  -- the leader
  pub leader : is_machine_count K ≡ true → is_ranking K ranking ≡ true → leading K ranking t.count t.list ≡ lead_answer (leader_of ranking (afresh done))
  -- what is refused of an add and of a removal that come next
  pub add_refused : (id : ℕ) → adding_refusal K ranking t.count t.list id ≡ first_of (refuse 1 (is_machine_count K) ∷ refuse 7 (is_ranking K ranking) ∷ refuse 23 (has_room (length (afresh done)) (length l)) ∷ refuse 24 (not (present id (afresh done))) ∷ [])
  pub remove_refused : (id : ℕ) → removing_refusal K ranking t.count t.list id ≡ first_of (refuse 1 (is_machine_count K) ∷ refuse 7 (is_ranking K ranking) ∷ refuse 24 (present id (afresh done)) ∷ [])

module _ (K : ℕ) (ranking : List ℕ) (l : List Row) where
  -- a list of calls has a run
  abbrev pub Runs : List Call → Type 0
  Runs calls = (done : List Call) × (t : Table) × Ran K ranking l calls done t
