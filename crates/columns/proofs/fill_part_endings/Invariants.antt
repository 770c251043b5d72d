use Rattle.columns.proofs.Endings.{PartTo}
use Rattle.columns.proofs.fill_part_endings.Given as goal

abbrev pub invariant-loop-state : goal.invariant-loop-state
invariant-loop-state l = PartTo l.initial.steps l.steps l.part l.first l.state
