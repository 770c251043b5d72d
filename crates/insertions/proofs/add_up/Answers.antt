use Rattle.basics.proofs.Words.{arith}
use Rattle.insertions.proofs.Adding.{add_start, add_fits, add_next}
use Rattle.insertions.proofs.add_up.Goals as goal

pub loop-i-init : goal.loop-i-init
loop-i-init c = add_start c.requires

pub overflow_add-ends : goal.overflow_add-ends
overflow_add-ends c =
    omega (arith, add_fits c.requires c.loop-i.invariant c.loop-i-test.true)

pub loop-i-preserved : goal.loop-i-preserved
loop-i-preserved c =
    add_next c.requires c.loop-i.invariant c.loop-i-test.true
