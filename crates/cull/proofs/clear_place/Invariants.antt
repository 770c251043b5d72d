use Rattle.cull.specs.Culling.{PlaceCleared}
use Rattle.cull.proofs.clear_place.Given as goal

abbrev pub invariant-loop-node : goal.invariant-loop-node
invariant-loop-node l = PlaceCleared l.initial.work l.work l.node l.place
