-- The joined part byte by byte: what the functions that write it put where.
use Rattle.std.specs.Prelude.{◌≡◌, ◌++◌, ◌⊎◌, ◌+◌, ◌<◌}
use Rattle.basics.specs.Words.{true, cond, List, [], ℕ, length, get_or, take, drop, joined}
use Rattle.machine.specs.declared.Arc.{Arc}
use Rattle.machine.specs.Machine.{take_one_pair}
use Rattle.machine.specs.Part.{state_count, arc_count, ending_byte, arcs_of, machine_of, shaped, part_refusal}
use Rattle.joined.specs.JoinedMachine.{joined_state, joined_arc, both_marks, joined_machine, markless}
use Rattle.joined.specs.MachineBytes.{arc_bytes, state_byte, fits_part}

-- a target with bytes put into it from a place on
unfoldable pub placed : ℕ → List ℕ → List ℕ → List ℕ
placed at bytes target = take at target ++ (bytes ++ drop (length bytes) (drop at target))

-- the state byte of two
abbrev pub joined_byte : ℕ → ℕ → ℕ
joined_byte a b = state_byte (both_marks (ending_byte a) (ending_byte b))

-- the bytes of the arc that two give, if they take a common pair
unfoldable pub shared_bytes : ℕ → Arc → Arc → List ℕ
shared_bytes Q a b = cond (take_one_pair a b) (arc_bytes (joined_arc Q a b)) []

-- those of the arcs that one arc gives with each of a part, and those of all arcs
abbrev pub row_bytes : List ℕ → Arc → List ℕ
row_bytes second a = joined (shared_bytes (state_count second) a) (arcs_of second)

abbrev pub rows_bytes : List ℕ → List ℕ → List ℕ
rows_bytes first second = joined (row_bytes second) (arcs_of first)

-- the numbers of the arc that two give are bytes
pub record ArcsFit (Q : ℕ) (a b : Arc) : Type 0 where
  pub from : joined_state Q a.from b.from < 256
  pub to : joined_state Q a.to b.to < 256
  pub marks : a.marks + b.marks < 256

-- an arc fits with each of a part
pub record RowFits (second : List ℕ) (a : Arc) : Type 0 where
  pub shape : shaped second ≡ true
  pub each : (i : ℕ) (d : Arc) → i < arc_count second → ArcsFit (state_count second) a (get_or (arcs_of second) i d)

-- two parts of a card that may be joined
pub record PartsJoin (first second : List ℕ) : Type 0 where
  pub symbols : ℕ
  pub few : symbols < 64
  pub first_accepted : part_refusal symbols first ≡ 0
  pub second_accepted : part_refusal symbols second ≡ 0
  pub unmarked : (markless (machine_of first) ≡ true) ⊎ (markless (machine_of second) ≡ true)
  pub fits : fits_part (joined_machine (machine_of first) (machine_of second)) ≡ true
