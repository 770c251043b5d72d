-- The joint step of all machines, and their joint ending.
use Rattle.std.specs.Prelude.{◌∷◌}
use Rattle.basics.specs.Words.{List, [], Option, some, none, ℕ}
use Rattle.machine.specs.declared.Pair.{Pair}
use Rattle.machine.specs.Machine.{Machine, step_of, ending_of}

-- one more in front, where all are there
abbrev pub and_those : {A : Type 0} → Option A → Option (List A) → Option (List A)
and_those none rest = none
and_those (some x) none = none
and_those (some x) (some xs) = some (x ∷ xs)

-- what each machine gives in its state, in card order; none if one of them gives none
unfoldable pub of_each : {A : Type 0} → (Machine → ℕ → Option A) → List Machine → List ℕ → Option (List A)
of_each f [] ss = some []
of_each f (m ∷ ms) [] = none
of_each f (m ∷ ms) (s ∷ ss) = and_those (f m s) (of_each f ms ss)

-- taking a pair on all machines: the state that each moves on to, and its marks
abbrev pub joint_step : List Machine → List ℕ → Pair → Option (List (ℕ × ℕ))
joint_step ms ss p = of_each (λ m s. step_of m s p) ms ss

-- ending on all machines: the marks of each
abbrev pub joint_ending : List Machine → List ℕ → Option (List ℕ)
joint_ending ms ss = of_each ending_of ms ss
