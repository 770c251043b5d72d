-- Adds and removals that were run on one list of records, as their contracts tell them; and the rows worked out afresh from the accepted calls alone.
use Rattle.std.specs.Prelude.{◌≡◌, ◌||◌, ◌∷◌, ◌++◌, ◌<◌}
use Rattle.basics.specs.Words.{Bool, true, false, List, [], ℕ, eqb}
use Rattle.live.specs.declared.Row.{Row}
use Rattle.live.specs.declared.Counted.{Counted}
use Rattle.live.specs.Calls.{Adds, Removes}

-- an add with its row, a removal with its id
pub data Call : Type 0 where
  Add : Row → Call
  Remove : ℕ → Call

-- the row count that the next call is given, and the lent list
pub record Table : Type 0 where
  pub count : ℕ
  pub list : List Row

-- a table that starts: no rows, whatever the records hold
abbrev pub started : List Row → Table
started l = record { count = 0; list = l }

-- what a call's contract says of the list that it leaves, m, and of its answer
abbrev pub Does : ℕ → List ℕ → Table → Call → List Row → Counted → Type 0
Does K ranking t (Add row) m answer = Adds K ranking t.count t.list m row answer
Does K ranking t (Remove id) m answer = Removes K ranking t.count t.list m id answer

-- calls that were run, those of them that were accepted, and the table then: each call is given the row count that the last accepted one answered,
-- 0 at first
pub data Ran (K : ℕ) (ranking : List ℕ) (l : List Row) : List Call → List Call → Table → Type 0 where
  begun : Ran K ranking l [] [] (started l)
  accepts : {calls done : List Call} {t : Table} (c : Call) (m : List Row) (answer : Counted) → Ran K ranking l calls done t → Does K ranking t c m answer → answer.number ≡ 0
      → Ran K ranking l (calls ++ (c ∷ [])) (done ++ (c ∷ [])) (record { count = answer.count; list = m })
  refuses : {calls done : List Call} {t : Table} (c : Call) (m : List Row) (answer : Counted) → Ran K ranking l calls done t → Does K ranking t c m answer → 0 < answer.number
      → Ran K ranking l (calls ++ (c ∷ [])) done (record { count = t.count; list = m })

-- whether some call removes an id
unfoldable pub removes : ℕ → List Call → Bool
removes id [] = false
removes id (Add row ∷ cs) = removes id cs
removes id (Remove i ∷ cs) = eqb i id || removes id cs

-- the rows worked out afresh: what is added and not since removed, in the order in which it is added
unfoldable pub afresh : List Call → List Row
afresh [] = []
afresh (Add row ∷ cs) = elim (removes row.id cs) [ true ↦ afresh cs | false ↦ row ∷ afresh cs ]
afresh (Remove id ∷ cs) = afresh cs
