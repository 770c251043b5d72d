use Rattle.basics.proofs.Words.{arith}
use Rattle.cells.proofs.Grouping.{group, group_pre, high_long, low_long, goes_on, adding_start, adding_next, adding_end}
use Rattle.cells.proofs.add_four.Goals as goal

pub loop-at-init : goal.loop-at-init
loop-at-init c = adding_start c.requires

pub add_machines-requires : goal.add_machines-requires
add_machines-requires c =
    group_pre (group c.requires c.loop-at.invariant.round c.loop-at-test.true) c.requires c.loop-at.high c.loop-at.low (high_long c.requires c.loop-at.invariant) (low_long c.requires c.loop-at.invariant)

pub loop-at-smaller : goal.loop-at-smaller
loop-at-smaller c =
    let q = goes_on c.requires c.loop-at.invariant.round c.loop-at-test.true in
    omega (arith, q.0, q.1)

pub loop-at-preserved : goal.loop-at-preserved
loop-at-preserved c =
    adding_next c.requires c.loop-at.invariant c.loop-at-test.true c.add_machines.new.high c.add_machines.new.low c.add_machines.auto.high c.add_machines.auto.low c.add_machines.ensures

pub returns : goal.returns
returns c = adding_end c.requires c.loop-at-test.false c.loop-at.invariant.round
