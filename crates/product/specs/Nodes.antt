-- Nodes of the product: an input position with one state per machine, as numbers.
use Rattle.std.specs.Prelude.{◌∷◌, ◌+◌, ◌*◌, ◌/◌, ◌%◌}
use Rattle.basics.specs.Words.{List, [], map, ℕ}
unfoldable pub use Rattle.basics.specs.Products.{product}
use Rattle.machine.specs.Machine.{Machine}
pub use Rattle.machine.specs.Machine.{state_count_of}

abbrev pub state_counts : List Machine → List ℕ
state_counts ms = map state_count_of ms

-- P is the product of the state counts; for n symbols there are (n + 1) × P nodes
abbrev pub node_count : List Machine → ℕ → ℕ
node_count ms n = (n + 1) * product (state_counts ms)

-- one state per machine as one number, the first machine's most significant
unfoldable pub code_of : List ℕ → List ℕ → ℕ
code_of [] ss = 0
code_of (q ∷ qs) [] = 0
code_of (q ∷ qs) (s ∷ ss) = s * product qs + code_of qs ss

-- the states that a number stands for
unfoldable pub states_of : List ℕ → ℕ → List ℕ
states_of [] c = []
states_of (q ∷ qs) c = c / product qs ∷ states_of qs (c % product qs)

-- the number of a node, by the state counts: the nodes of one position stand together
abbrev pub node_of : List ℕ → ℕ → List ℕ → ℕ
node_of qs i ss = i * product qs + code_of qs ss

abbrev pub position_at : List ℕ → ℕ → ℕ
position_at qs u = u / product qs

abbrev pub states_at : List ℕ → ℕ → List ℕ
states_at qs u = states_of qs (u % product qs)
