use Rattle.std.specs.Prelude.{◌-◌}
use Rattle.basics.proofs.Words.{arith}
use Rattle.cells.proofs.Scaling.{scaling_start, place_within, next_few, scaling_next, scaling_end}
use Rattle.cells.proofs.scales.write_scales.Goals as goal

pub loop-m-init : goal.loop-m-init
loop-m-init c = scaling_start c.args.counts.now c.args.weights.now

pub overflow_mul-weights : goal.overflow_mul-weights
overflow_mul-weights c =
    omega (arith, place_within c.requires.0 c.requires.1 c.loop-m.invariant (c.loop-m.m - 1) (omega (arith, c.loop-m-test.true)), c.loop-m.invariant.written.size)

pub bounds-weights-m : goal.bounds-weights-m
bounds-weights-m c =
    place_within c.requires.0 c.requires.1 c.loop-m.invariant (c.loop-m.m - 1) (omega (arith, c.loop-m-test.true))

pub bounds-counts-m : goal.bounds-counts-m
bounds-counts-m c = omega (arith, c.loop-m.invariant.within, c.loop-m-test.true)

pub overflow_mul-scale : goal.overflow_mul-scale
overflow_mul-scale c =
    omega (arith, next_few c.requires.0 c.requires.1 c.loop-m.invariant (c.loop-m.m - 1) (omega (arith, c.loop-m-test.true)) c.from-scale.result c.from-scale.ensures)

pub loop-m-preserved : goal.loop-m-preserved
loop-m-preserved c =
    scaling_next c.requires.0 c.requires.1 c.loop-m.invariant (c.loop-m.m - 1) (omega (arith, c.loop-m-test.true)) c.from-scale.result c.from-scale.ensures

pub shape_of-weights : goal.shape_of-weights
shape_of-weights c = c.loop-m.invariant.written.size

pub returns : goal.returns
returns c = scaling_end c.loop-m.invariant (omega (arith, c.loop-m-test.false))
