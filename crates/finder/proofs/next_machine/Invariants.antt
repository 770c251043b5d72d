use Rattle.std.specs.Prelude.{◌≡◌}
use Rattle.basics.proofs.Words.{none}
use Rattle.finder.specs.Finder.{conditions_of}
use Rattle.finder.specs.Steps.{next_machine}
use Rattle.finder.proofs.next_machine.Given as goal

abbrev pub invariant-loop-machine : goal.invariant-loop-machine
invariant-loop-machine l = next_machine l.machine (conditions_of l.conditions) l.placed ≡ none
