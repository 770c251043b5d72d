use Rattle.tight.proofs.Tests.{Trying}
use Rattle.tight.proofs.least_tight.Given as goal

abbrev pub invariant-loop-left : goal.invariant-loop-left
invariant-loop-left l = Trying l.label l.ranked l.sums l.steps l.places l.weights l.base l.width l.outputs l.left

abbrev pub decreases-loop-left : goal.decreases-loop-left
decreases-loop-left l = l.left
