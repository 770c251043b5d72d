use Rattle.std.proofs.Common.{refl, arith}
use Rattle.optimizer.proofs.Places.{placed_next, placed_end, place_below}
use Rattle.optimizer.proofs.profile_of.Goals as goal

pub bounds-counts-machine : goal.bounds-counts-machine
bounds-counts-machine c = omega (arith, place_below c.args.ranking.now c.requires c.loop-place.place (omega arith), c.index-machine.ensures.0)

pub loop-place-preserved : goal.loop-place-preserved
loop-place-preserved c =
    (placed_next _ c.requires _ c.loop-place.place c.loop-place.counts c.loop-place.invariant.0 (omega arith) c.index-machine.result _ c.index-machine.ensures.0 refl, refl, omega arith)

pub returns : goal.returns
returns c = placed_end _ c.requires c.args.label c.loop-place.place c.loop-place.counts c.loop-place.invariant.0 (omega arith)
