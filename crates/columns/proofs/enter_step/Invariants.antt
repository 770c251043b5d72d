use Rattle.columns.proofs.Entering.{EnterTo}
use Rattle.columns.proofs.enter_step.Given as goal

abbrev pub invariant-loop-left : goal.invariant-loop-left
invariant-loop-left l = EnterTo l.initial.steps l.steps l.width l.place l.outputs l.step l.left

abbrev pub decreases-loop-left : goal.decreases-loop-left
decreases-loop-left l = l.left
