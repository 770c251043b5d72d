-- The joint step and the joint ending at a code of states, with the marks as one number.
use Rattle.basics.specs.Words.{List, Option, some, none, ℕ}
use Rattle.machine.specs.declared.Pair.{Pair}
use Rattle.machine.specs.Machine.{Machine}
use Rattle.product.specs.ProductGraph.{Move}
use Rattle.product.specs.Codes.{code_step, code_ending}
use Rattle.tables.specs.Places.{mark_number}

-- where a move leads, and the number of its marks
abbrev pub numbered : List ℕ → Option Move → Option (ℕ × ℕ)
numbered places none = none
numbered places (some m) = some (m.target, mark_number places m.marks)

-- taking a pair on all machines, in the states of a code
abbrev pub joint_from : List ℕ → List Machine → ℕ → Pair → Option (ℕ × ℕ)
joint_from places ms code p = numbered places (code_step ms code p)

-- the number of the marks of an ending
abbrev pub ending_number : List ℕ → Option (List ℕ) → Option ℕ
ending_number places none = none
ending_number places (some marks) = some (mark_number places marks)

-- ending on all machines, in the states of a code
abbrev pub ending_from : List ℕ → List Machine → ℕ → Option ℕ
ending_from places ms code = ending_number places (code_ending ms code)
