-- The bytes of a machine as a part, and two parts as one.
use Rattle.std.specs.Prelude.{◌&&◌, ◌∷◌, ◌++◌, ◌/◌, ◌%◌}
use Rattle.basics.specs.Words.{Bool, List, [], map, Option, some, none, ℕ, zero, suc, length, leb, joined}
use Rattle.machine.specs.declared.Arc.{Arc}
use Rattle.machine.specs.Machine.{Machine, state_count_of}
use Rattle.machine.specs.Part.{machine_of}
use Rattle.joined.specs.JoinedMachine.{joined_machine}

-- the low bytes of a number, least first
abbrev pub little_endian : ℕ → ℕ → List ℕ
little_endian zero w = []
little_endian (suc n) w = w % 256 ∷ little_endian n (w / 256)

-- the 20 bytes of an arc
abbrev pub arc_bytes : Arc → List ℕ
arc_bytes a = a.from ∷ a.to ∷ a.marks ∷ a.kind ∷ little_endian 8 a.inputs ++ little_endian 8 a.outputs

-- the state byte for the marks of ending there: 0 is not final, else final with that many less one marks
abbrev pub state_byte : Option ℕ → ℕ
state_byte none = 0
state_byte (some marks) = suc marks

-- the part whose machine it is
unfoldable pub machine_bytes : Machine → List ℕ
machine_bytes m = state_count_of m ∷ length m.arcs ∷ map state_byte m.endings ++ joined arc_bytes m.arcs

-- at most 32 states and 255 arcs
abbrev pub fits_part : Machine → Bool
fits_part m = leb (state_count_of m) 32 && leb (length m.arcs) 255

-- two parts as one
abbrev pub joined_part : List ℕ → List ℕ → List ℕ
joined_part p q = machine_bytes (joined_machine (machine_of p) (machine_of q))
