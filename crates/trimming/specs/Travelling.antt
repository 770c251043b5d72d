-- Machines that lack one arc, and the arcs that a candidate travels.
use Rattle.std.specs.Prelude.{◌||◌, ◌∷◌}
use Rattle.basics.specs.Words.{Bool, false, List, [], some, none, ℕ, zero, suc, get_or, set, without}
use Rattle.machine.specs.declared.Arc.{Arc}
use Rattle.machine.specs.declared.Pair.{Pair}
use Rattle.machine.specs.Machine.{Machine, no_machine, start_state, takes_from, step_of}

-- a machine that lacks its arc j
abbrev pub machine_without : ℕ → Machine → Machine
machine_without j m = record { endings = m.endings; arcs = without j m.arcs }

-- machines that differ only by lacking one arc, arc j of machine i
abbrev pub machines_without : ℕ → ℕ → List Machine → List Machine
machines_without i j ms = set ms i (machine_without j (get_or ms i no_machine))

-- arc j takes the pair from the state
unfoldable pub arc_takes : List Arc → ℕ → ℕ → Pair → Bool
arc_takes [] j s p = false
arc_takes (a ∷ arcs) zero s p = takes_from a s p
arc_takes (a ∷ arcs) (suc j) s p = arc_takes arcs j s p

-- a candidate travels arc j from a state: the arc takes one of its pairs, from the state that the pairs before it lead to
unfoldable pub travels_from : Machine → ℕ → ℕ → List Pair → Bool
travels_from m j s [] = false
travels_from m j s (p ∷ ps) = arc_takes m.arcs j s p || elim (step_of m s p) [ none ↦ false | some r ↦ travels_from m j r.0 ps ]

-- a candidate travels arc j of machine i
abbrev pub travels : List Machine → ℕ → ℕ → List Pair → Bool
travels ms i j c = travels_from (get_or ms i no_machine) j start_state c
