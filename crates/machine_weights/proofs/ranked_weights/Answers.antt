use Rattle.std.specs.Prelude.{◌≡◌, ◌*◌, ◌-◌, ◌≤◌}
use Rattle.basics.proofs.Words.{refl, ◌∙◌, ap, List, ℕ, arith, length}
use Rattle.settling.specs.Prices.{ranked_highs, ranked_lows}
use Rattle.insertions.specs.RankedWeights.{weight_by}
use Rattle.machine_weights.proofs.Weighing.{highs_six, lows_six, weights_start, machine_few, scale_few, weights_next, weights_are, weights_ranked}
use Rattle.machine_weights.proofs.ranked_weights.Goals as goal

pub loop-m-init : goal.loop-m-init
loop-m-init c = weights_start refl

pub overflow_mul-at : goal.overflow_mul-at
overflow_mul-at c = omega (arith, machine_few c.requires.0 c.loop-m.invariant)

pub offset_bounds-weights-at : goal.offset_bounds-weights-at
offset_bounds-weights-at c = omega (arith, machine_few c.requires.0 c.loop-m.invariant)

pub bounds-weights-at : goal.bounds-weights-at
bounds-weights-at c = omega (arith, machine_few c.requires.0 c.loop-m.invariant, c.loop-m-test.true)

pub overflow_cast-m : goal.overflow_cast-m
overflow_cast-m c = omega (arith, machine_few c.requires.0 c.loop-m.invariant)

pub weight-requires : goal.weight-requires
weight-requires c = (ap length c.six_places-places.ensures, refl, highs_six)

pub overflow_add-weights : goal.overflow_add-weights
overflow_add-weights c = omega (arith, machine_few c.requires.0 c.loop-m.invariant)

pub offset_bounds-weights-at-in-loop-m : goal.offset_bounds-weights-at-in-loop-m
offset_bounds-weights-at-in-loop-m c = omega (arith, machine_few c.requires.0 c.loop-m.invariant)

pub bounds-weights-at-in-loop-m : goal.bounds-weights-at-in-loop-m
bounds-weights-at-in-loop-m c = omega (arith, machine_few c.requires.0 c.loop-m.invariant, c.loop-m-test.true)

pub overflow_cast-m-in-loop-m : goal.overflow_cast-m-in-loop-m
overflow_cast-m-in-loop-m c = omega (arith, machine_few c.requires.0 c.loop-m.invariant)

pub weight-requires-in-loop-m : goal.weight-requires-in-loop-m
weight-requires-in-loop-m c = (ap length c.six_places-places.ensures, refl, lows_six)

pub overflow_add-weights-in-loop-m : goal.overflow_add-weights-in-loop-m
overflow_add-weights-in-loop-m c = omega (arith, machine_few c.requires.0 c.loop-m.invariant)

pub offset_bounds-weights-at-in-loop-m-2 : goal.offset_bounds-weights-at-in-loop-m-2
offset_bounds-weights-at-in-loop-m-2 c = omega (arith, machine_few c.requires.0 c.loop-m.invariant)

pub bounds-weights-at-in-loop-m-2 : goal.bounds-weights-at-in-loop-m-2
bounds-weights-at-in-loop-m-2 c = omega (arith, machine_few c.requires.0 c.loop-m.invariant, c.loop-m-test.true)

pub overflow_mul-scale : goal.overflow_mul-scale
overflow_mul-scale c =
    let q : c.loop-m.scale * c.index-scale.result ≤ 128 = rw c.index-scale.ensures.0 (scale_few c.requires.0 c.loop-m.invariant c.loop-m-test.true) in
    omega (arith, q)

pub loop-m-preserved : goal.loop-m-preserved
loop-m-preserved c =
    let e = c.six_places-places.ensures in
    weights_next c.requires.0 c.loop-m.invariant c.loop-m-test.true (c.weight.ensures ∙ ap (λ (r : List ℕ). weight_by r ranked_highs (c.loop-m.m - 1)) e) (c.weight-in-loop-m.ensures ∙ ap (λ (r : List ℕ). weight_by r ranked_lows (c.loop-m.m - 1)) e) c.index-scale.ensures.0

pub returns : goal.returns
returns c =
    let e : c.loop-m.m ≡ 0 = omega (arith, c.loop-m-test.false) in
    let W = rw e at c.loop-m.invariant in
    (weights_are c.requires.0 c.args.ranking.now c.requires.1 W, weights_ranked c.requires.0 c.args.ranking.now c.requires.1 W, c.loop-m.invariant.size)
