-- The nodes that a list of pairs passes: an input position with one state per machine.
use Rattle.std.specs.Prelude.{◌∷◌, ◌+◌}
use Rattle.basics.specs.Words.{cond, List, [], map, some, none, ℕ, eqb}
use Rattle.machine.specs.declared.Pair.{Pair}
use Rattle.machine.specs.Symbols.{empty_symbol}
use Rattle.machine.specs.Machine.{Machine, start_state}
use Rattle.product.specs.JointStep.{joint_step}

-- how many symbols of the word are spelled so far, and the state that each machine is in, in card order
pub record Node : Type 0 where
  pub position : ℕ
  pub states : List ℕ

-- no symbol spelled, every machine in its start state
abbrev pub first_node : List Machine → Node
first_node ms = record { position = 0; states = map (λ m. start_state) ms }

-- the node after a pair, by the steps of the machines: an insertion spells nothing
abbrev pub node_after : Node → Pair → List (ℕ × ℕ) → Node
node_after u p steps = record { position = cond (eqb p.input empty_symbol) u.position (u.position + 1); states = map (λ r. r.0) steps }

-- the nodes that the pairs pass from u, u itself and the last too; a pair that some machine does not take leads to none
unfoldable pub nodes_from : List Machine → Node → List Pair → List Node
nodes_from ms u [] = u ∷ []
nodes_from ms u (p ∷ ps) = u ∷ elim (joint_step ms u.states p) [ none ↦ [] | some steps ↦ nodes_from ms (node_after u p steps) ps ]

abbrev pub nodes_of : List Machine → List Pair → List Node
nodes_of ms c = nodes_from ms (first_node ms) c
