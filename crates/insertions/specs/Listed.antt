-- Insertions in lists by the code that they lead to.
use Rattle.std.specs.Prelude.{◌≡◌, ◌≢◌, ◌+◌, ◌*◌, ◌<◌, ◌≤◌}
use Rattle.basics.specs.Words.{true, List, Option, some, ℕ, length, get_or, member}
use Rattle.machine.specs.Symbols.{empty_symbol}
use Rattle.machine.specs.Machine.{Machine}
use Rattle.product.specs.Nodes.{state_counts, product}
use Rattle.product.specs.ProductGraph.{Move}
use Rattle.product.specs.Codes.{code_step}
use Rattle.tables.specs.Places.{mark_number}
use Rattle.settling.specs.Insertions.{code_in, marks_in, is_listed}

-- the insertion of an output, from a code
abbrev pub insertion_step : List Machine → ℕ → ℕ → Option Move
insertion_step ms code output = code_step ms code (record { input = empty_symbol; output = output })

-- some kept output leads from the code j to v, with these marks as a number, four bits a place
pub record Inserts (ms : List Machine) (places : List ℕ) (kept j v marks : ℕ) : Type 0 where
  pub output : ℕ
  pub is_kept_lem : member kept output ≡ true
  pub move : Move
  pub is : insertion_step ms j output ≡ some move
  pub target_is : move.target ≡ v
  pub marks_are : marks ≡ mark_number places move.marks

-- a place of the lists of v, with an entry that leads from j and has these marks
pub record Place (entries ends : List ℕ) (v j marks : ℕ) : Type 0 where
  pub at : ℕ
  pub listed : is_listed ends v at ≡ true
  pub from_is : code_in (get_or entries at 0) ≡ j
  pub marks_are : marks_in (get_or entries at 0) ≡ marks

-- the lists have the insertions of the kept outputs that lead from a code to another one, and no others; from the list k on the first machine of
-- the places has k marks at least
pub record Listed (ms : List Machine) (places : List ℕ) (kept : ℕ) (entries ends : List ℕ) : Type 0 where
  pub rising : (v k : ℕ) → v < 128 → k ≤ 4 → get_or ends (4 * v + k) 0 ≤ get_or ends (4 * v + 4) 0
  pub sorted : (v k at : ℕ) → is_listed ends v at ≡ true → k < 4 → get_or ends (4 * v + k) 0 ≤ at → k * 1048576 ≤ marks_in (get_or entries at 0)
  pub within : (v at : ℕ) → is_listed ends v at ≡ true → at < length entries
  pub to : (v at : ℕ) → is_listed ends v at ≡ true → v < product (state_counts ms)
  pub from : (v at : ℕ) → is_listed ends v at ≡ true → code_in (get_or entries at 0) < product (state_counts ms)
  pub entry : (v at : ℕ) → is_listed ends v at ≡ true → Inserts ms places kept (code_in (get_or entries at 0)) v (marks_in (get_or entries at 0))
  pub all : (j y : ℕ) (w : Move) → j < product (state_counts ms) → member kept y ≡ true → insertion_step ms j y ≡ some w → w.target ≢ j → Place entries ends w.target j (mark_number places w.marks)
