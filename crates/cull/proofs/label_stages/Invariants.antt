use Rattle.std.specs.Prelude.{◌≡◌}
use Rattle.basics.specs.Words.{List, ℕ, length}
use Rattle.cull.specs.Culling.{CullPre}
use Rattle.cull.proofs.Culling.{StagesGone}
use Rattle.cull.proofs.label_stages.Given as goal

abbrev pub invariant-loop-stage : goal.invariant-loop-stage
invariant-loop-stage l =
    ((ranking : List ℕ) → CullPre l.card ranking l.sets l.counts l.weights l.entries l.ends l.fn.work l.size 0 → StagesGone l.card ranking l.sets l.fn.work l.work l.stage)

abbrev pub invariant-loop-place : goal.invariant-loop-place
invariant-loop-place l =
    ((ranking : List ℕ) → CullPre l.card ranking l.sets l.counts l.weights l.entries l.ends l.fn.work l.size 0 → StagesGone l.card ranking l.sets l.fn.work l.work l.place)
