use Rattle.stage.specs.Relaxing.{no_counts}
use Rattle.stage.proofs.StageWork.{KeptBelow}
use Rattle.stage.proofs.ending_left.Given as goal

abbrev pub invariant-loop-place : goal.invariant-loop-place
invariant-loop-place l = KeptBelow l.work l.node l.marks no_counts l.place
