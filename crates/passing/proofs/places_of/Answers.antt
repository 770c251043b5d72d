use Rattle.basics.proofs.Words.{sym, ◌∙◌, arith}
use Rattle.passing.proofs.Placing.{placed_start, in_six, next_few, place_few, placed_next, placed_end}
use Rattle.passing.proofs.places_of.Goals as goal

pub loop-m-init : goal.loop-m-init
loop-m-init c = placed_start c.requires

pub bounds-states-m : goal.bounds-states-m
bounds-states-m c = omega (arith, in_six c.requires c.loop-m.invariant c.loop-m-test.true, c.requires.size)

pub overflow_add-places : goal.overflow_add-places
overflow_add-places c = omega (arith, place_few c.requires c.loop-m.invariant c.loop-m-test.true)

pub bounds-places-m : goal.bounds-places-m
bounds-places-m c = omega (arith, in_six c.requires c.loop-m.invariant c.loop-m-test.true, c.loop-m.invariant.size)

pub overflow_add-first : goal.overflow_add-first
overflow_add-first c = omega (arith, next_few c.requires c.loop-m.invariant c.loop-m-test.true)

pub loop-m-preserved : goal.loop-m-preserved
loop-m-preserved c = placed_next c.requires c.loop-m.invariant c.loop-m-test.true

pub shape_of-places : goal.shape_of-places
shape_of-places c = c.loop-m.invariant.size ∙ sym c.requires.room

pub returns : goal.returns
returns c = placed_end c.requires c.loop-m.invariant (omega (arith, c.loop-m-test.false))
