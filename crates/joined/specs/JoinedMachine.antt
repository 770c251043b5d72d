-- Two machines joined to one by Ellison's product.
use Rattle.std.specs.Prelude.{◌&&◌, ◌+◌, ◌*◌}
use Rattle.basics.specs.Words.{Bool, true, List, map, Option, some, none, ℕ, zero, suc, eqb, all_of, those, joined}
use Rattle.std.specs.Int.Bits.{bit_and}
use Rattle.machine.specs.declared.Arc.{Arc}
use Rattle.machine.specs.Machine.{Machine, state_count_of, take_one_pair}

-- the state for a state of each, where the second machine has Q states
abbrev pub joined_state : ℕ → ℕ → ℕ → ℕ
joined_state Q s t = s * Q + t

-- their kind, or the one that is not 0
abbrev pub joined_kind : ℕ → ℕ → ℕ
joined_kind zero l = l
joined_kind (suc k) l = suc k

-- two arcs as one: its sets are what the two have in common, its marks theirs added
abbrev pub joined_arc : ℕ → Arc → Arc → Arc
joined_arc Q a b =
    record {
      from = joined_state Q a.from b.from;
      to = joined_state Q a.to b.to;
      marks = a.marks + b.marks;
      kind = joined_kind a.kind b.kind;
      inputs = bit_and a.inputs b.inputs;
      outputs = bit_and a.outputs b.outputs;
    }

-- an arc for each two that take a common pair: by the first, then the second
abbrev pub arcs_with : ℕ → List Arc → Arc → List Arc
arcs_with Q seconds a = map (joined_arc Q a) (those (take_one_pair a) seconds)

abbrev pub joined_arcs : ℕ → List Arc → List Arc → List Arc
joined_arcs Q firsts seconds = joined (arcs_with Q seconds) firsts

-- the marks of two: none where one has none, else theirs added
abbrev pub both_marks : Option ℕ → Option ℕ → Option ℕ
both_marks none n = none
both_marks (some m) none = none
both_marks (some m) (some n) = some (m + n)

-- what f makes of each element of one list with each of another: by the first, then the second
abbrev pub crossed : {A B C : Type 0} → (A → B → C) → List A → List B → List C
crossed f xs ys = joined (λ x. map (f x) ys) xs

-- a state is final if both are, and their ending marks are added
unfoldable pub joined_machine : Machine → Machine → Machine
joined_machine a b = record { endings = crossed both_marks a.endings b.endings; arcs = joined_arcs (state_count_of b) a.arcs b.arcs }

-- ending there costs no marks, if it is final
abbrev pub ends_free : Option ℕ → Bool
ends_free none = true
ends_free (some m) = eqb m 0

-- no marks at all, arcs and endings both
unfoldable pub markless : Machine → Bool
markless m = all_of (λ a. eqb a.marks 0) m.arcs && all_of ends_free m.endings
