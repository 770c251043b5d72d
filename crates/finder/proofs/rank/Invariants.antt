use Rattle.finder.specs.Finder.{conditions_of}
use Rattle.finder.proofs.Steps.{Filled}
use Rattle.finder.proofs.rank.Given as goal

abbrev pub invariant-loop-place : goal.invariant-loop-place
invariant-loop-place l = Filled l.machines (conditions_of l.conditions) l.ranking l.placed l.place
