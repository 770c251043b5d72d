use Rattle.settling.specs.OpenCodes.{OneIn}
use Rattle.settling.proofs.OpenCodes.{PartOf}
use Rattle.stage_settling.proofs.choose_in.Given as goal

abbrev pub invariant-loop-left : goal.invariant-loop-left
invariant-loop-left l = OneIn l.set l.first l.best × PartOf l.set l.left

abbrev pub decreases-loop-left : goal.decreases-loop-left
decreases-loop-left l = l.left
