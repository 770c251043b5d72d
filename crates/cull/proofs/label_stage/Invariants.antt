use Rattle.basics.specs.Words.{List, ℕ}
use Rattle.cull.specs.Culling.{StagePre}
use Rattle.cull.proofs.Culling.{PositionDone}
use Rattle.cull.proofs.label_stage.Given as goal

abbrev pub invariant-loop-position : goal.invariant-loop-position
invariant-loop-position l =
    (ranking : List ℕ) → StagePre l.card ranking l.sets l.counts l.weights l.entries l.ends l.fn.work l.size l.stage → PositionDone l.card ranking l.sets l.fn.work l.work l.position l.stage
