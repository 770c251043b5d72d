-- The start node is the number 0: the first position, and each machine's start state is 0. Assumes nothing.
use Rattle.std.specs.Prelude.{◌≡◌, ◌∷◌}
use Rattle.basics.specs.Words.{refl, List, [], map, arith}
use Rattle.machine.specs.Machine.{Machine, start_state}
use Rattle.product.specs.Nodes.{state_counts, code_of}
use Rattle.product.specs.ProductGraph.{start_node}

start_code : (ms : List Machine) → code_of (state_counts ms) (map (λ m. start_state) ms) ≡ 0
unfolding code_of
start_code [] = refl
start_code (m ∷ ms) = omega (arith, start_code ms)

pub start_is_zero : (ms : List Machine) → start_node ms ≡ 0
start_is_zero ms = omega (arith, start_code ms)
