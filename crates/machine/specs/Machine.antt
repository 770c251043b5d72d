-- Constraint machines: arcs, the pairs that they take, steps, endings.
use Rattle.std.specs.Prelude.{Option as Answer, Some, None, ◌&&◌, ◌∷◌}
use Rattle.basics.specs.Words.{Bool, true, false, not, List, [], Option, some, none, ℕ, zero, suc, length, get_or, eqb, some_below, member}
use Rattle.machine.specs.declared.Arc.{Arc}
use Rattle.machine.specs.declared.Pair.{Pair}
use Rattle.machine.specs.declared.Position.{Position}
use Rattle.machine.specs.Symbols.{is_pair}

-- for each state the marks for ending there, none where it is not final; and the arcs
pub record Machine : Type 0 where
  pub endings : List (Option ℕ)
  pub arcs : List Arc

-- a machine's states are the numbers below its state count
abbrev pub state_count_of : Machine → ℕ
state_count_of m = length m.endings

-- a machine with no state
abbrev pub no_machine : Machine
no_machine = record { endings = []; arcs = [] }

-- a machine starts in state 0
abbrev pub start_state : ℕ
start_state = 0

-- a pair is of an arc's kind: 0 has any pair, 1 only those with in equal to out, 2 only those with in unlike out
unfoldable pub of_kind : ℕ → Pair → Bool
of_kind zero p = true
of_kind (suc zero) p = is_pair p && eqb p.input p.output
of_kind (suc (suc k)) p = not (eqb p.input p.output)

-- an arc takes a pair if in and out are in its sets and the pair is of its kind
unfoldable pub takes : Arc → Pair → Bool
takes a p = member a.inputs p.input && member a.outputs p.output && of_kind a.kind p

-- an arc takes a pair from a state if it leaves that state and takes the pair
abbrev pub takes_from : Arc → ℕ → Pair → Bool
takes_from a s p = eqb a.from s && takes a p

-- the first of the arcs that takes the pair from the state: where it leads, and its marks
unfoldable pub step_among : List Arc → ℕ → Pair → Option (ℕ × ℕ)
step_among [] s p = none
step_among (a ∷ rest) s p = elim (takes_from a s p) [ true ↦ some (a.to, a.marks) | false ↦ step_among rest s p ]

-- taking a pair in a state: the state moved on to, and the marks
abbrev pub step_of : Machine → ℕ → Pair → Option (ℕ × ℕ)
step_of m s p = step_among m.arcs s p

-- the marks for ending in a state, none where it is not final
unfoldable pub ending_of : Machine → ℕ → Option ℕ
ending_of m s = get_or m.endings s none

-- both arcs take the pair
abbrev pub both_take : Arc → Arc → Pair → Bool
both_take a b p = is_pair p && takes a p && takes b p

-- both arcs take some pair, over the symbols that a set can have
unfoldable pub take_one_pair : Arc → Arc → Bool
take_one_pair a b = some_below (λ x. some_below (λ y. both_take a b (record { input = x; output = y })) 64) 64

-- two arcs of a state take one pair
unfoldable pub clash : Arc → Arc → Bool
clash a b = eqb a.from b.from && take_one_pair a b

-- what the code answers of a step
abbrev pub stepped : Answer (Position × ℕ) → Option (ℕ × ℕ)
stepped (Some a) = some (a.0.state, a.1)
stepped None = none

-- what the code answers of an ending
abbrev pub ended : Answer ℕ → Option ℕ
ended (Some m) = some m
ended None = none
