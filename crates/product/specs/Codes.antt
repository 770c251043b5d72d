-- The joint step and the joint ending by the codes of the states: what they are at every position.
use Rattle.std.specs.Prelude.{◌+◌}
use Rattle.basics.specs.Words.{List, map, Option, some, none, ℕ}
use Rattle.machine.specs.declared.Pair.{Pair}
use Rattle.machine.specs.Machine.{Machine}
use Rattle.product.specs.Nodes.{state_counts, code_of, states_of}
use Rattle.product.specs.JointStep.{joint_step, joint_ending}
use Rattle.product.specs.ProductGraph.{Move}

abbrev pub coded : List ℕ → Option (List (ℕ × ℕ)) → Option Move
coded qs none = none
coded qs (some steps) = some (record { target = code_of qs (map (λ r. r.0) steps); marks = map (λ r. r.1) steps })

-- taking a pair in the states of a code: the code that it leads to, and the marks
abbrev pub code_step : List Machine → ℕ → Pair → Option Move
code_step ms c p = coded (state_counts ms) (joint_step ms (states_of (state_counts ms) c) p)

-- ending in the states of a code: the marks
abbrev pub code_ending : List Machine → ℕ → Option (List ℕ)
code_ending ms c = joint_ending ms (states_of (state_counts ms) c)

-- a step by codes as a move to the nodes from a number on
abbrev pub moved_by : ℕ → Option Move → Option Move
moved_by base none = none
moved_by base (some m) = some (record { target = base + m.target; marks = m.marks })
