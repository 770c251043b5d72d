-- Machines as an accepted card has them, and their state counts.
use Rattle.std.specs.Prelude.{◌≡◌, ◌<◌, ◌≤◌}
use Rattle.basics.specs.Words.{List, ℕ, length}
use Rattle.machine.specs.Machine.{Machine}
use Rattle.product.specs.Nodes.{state_count_of, state_counts, product}
use Rattle.product.specs.Laws.JointStep.{AllSound}
use Rattle.tables.specs.StepTable.{machine_at}

-- machines as an accepted card of S symbols has them: one to six, sound, each of at most 32 states, with at most 128 joint states
pub record CardMachines (S : ℕ) (ms : List Machine) : Type 0 where
  pub some_machine : 1 ≤ length ms
  pub machines : length ms ≤ 6
  pub sound : AllSound S ms
  pub states : (m : ℕ) → state_count_of (machine_at ms m) ≤ 32
  pub joint_states : product (state_counts ms) ≤ 128
  pub symbols : S < 64

-- these are the state counts of some machines
pub record CountsOfSome (counts : List ℕ) : Type 0 where
  pub symbols : ℕ
  pub machines : List Machine
  pub card : CardMachines symbols machines
  pub are : counts ≡ state_counts machines
