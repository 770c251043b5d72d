use Rattle.basics.proofs.Words.{arith}
use Rattle.tables.proofs.Counts.{few_states_lem}
use Rattle.cells.proofs.Choosing.{choosing_start, places_fit, codes_fit, codes_some, rest_few, choosing_next, choosing_end}
use Rattle.cells.proofs.grouped.Goals as goal

pub loop-m-init : goal.loop-m-init
loop-m-init c = choosing_start c.requires.0 c.requires.1 c.requires.2

pub overflow_add-places : goal.overflow_add-places
overflow_add-places c =
    omega (arith, places_fit c.requires.0 c.requires.1 c.requires.2 c.loop-m.invariant c.loop-m-test.true c.index-more.result c.index-more.ensures.0)

pub overflow_mul-codes : goal.overflow_mul-codes
overflow_mul-codes c =
    omega (arith, codes_fit c.requires.0 c.requires.1 c.requires.2 c.loop-m.invariant c.loop-m-test.true c.index-more.result c.index-more.ensures.0)

pub nonzero_div-back : goal.nonzero_div-back
nonzero_div-back c =
    codes_some c.requires.0 c.requires.1 c.requires.2 c.loop-m.invariant c.loop-m-test.true c.index-more.result c.index-more.ensures.0

pub nearer-best-requires : goal.nearer-best-requires
nearer-best-requires c =
    (omega (arith, c.loop-m.invariant.most, c.requires.2, few_states_lem c.requires.0), omega (arith, codes_fit c.requires.0 c.requires.1 c.requires.2 c.loop-m.invariant c.loop-m-test.true c.index-more.result c.index-more.ensures.0, rest_few c.requires.0 c.requires.1 c.requires.2 c.loop-m.invariant c.loop-m-test.true c.index-more.result c.index-more.ensures.0))

pub loop-m-preserved : goal.loop-m-preserved
loop-m-preserved c =
    choosing_next c.requires.0 c.requires.1 c.requires.2 c.loop-m.invariant c.loop-m-test.true c.index-more.result c.index-more.ensures.0 c.nearer-best.ensures

pub returns : goal.returns
returns c =
    choosing_end c.requires.0 c.requires.1 c.requires.2 c.loop-m.invariant c.loop-m-test.false
