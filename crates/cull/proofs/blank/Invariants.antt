use Rattle.cull.specs.Culling.{Blanked}
use Rattle.cull.proofs.blank.Given as goal

abbrev pub invariant-loop-node : goal.invariant-loop-node
invariant-loop-node l = Blanked l.initial.work l.work l.node
