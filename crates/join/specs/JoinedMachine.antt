-- The machines of a card with two of them joined to one.
use Rattle.basics.specs.Words.{List, ℕ, get_or}
use Rattle.machine.specs.Machine.{Machine, no_machine}
use Rattle.join.specs.Merged.{merged_at}
pub use Rattle.joined.specs.JoinedMachine.{joined_state, joined_kind, joined_arc, arcs_with, joined_arcs, both_marks, crossed, ends_free}
unfoldable pub use Rattle.joined.specs.JoinedMachine.{joined_machine, markless}

-- the machine in a place
abbrev pub machine_at : List Machine → ℕ → Machine
machine_at ms i = get_or ms i no_machine

-- the machines of a card with the machines i and j joined, i < j: the joined one in place i, those after j one number down
abbrev pub joined_machines : ℕ → ℕ → List Machine → List Machine
joined_machines i j ms = merged_at joined_machine i j ms
