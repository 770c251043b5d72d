use Rattle.basics.proofs.Words.{arith}
use Rattle.machine_weights.proofs.Weighing.{sum_start, sum_taken, sum_passed, sum_end}
use Rattle.machine_weights.proofs.weight.Goals as goal
use Rattle.machine_weights.proofs.weight.Goals.{then-place-machine, else-place-machine}

pub loop-i-init : goal.loop-i-init
loop-i-init c = sum_start

pub overflow_add-sum : goal.overflow_add-sum
overflow_add-sum c = omega (arith, c.loop-i.invariant.few, c.requires.2.most c.loop-i.i, c.loop-i-test.true)

pub loop-i-preserved : goal.loop-i-preserved
loop-i-preserved c =
    let h = c.loop-i-test.true in
    elim c.if-place-machine.branch [ then-place-machine w ↦ rw w.sum-is (sum_taken c.loop-i.invariant h c.requires.0 c.requires.1 c.requires.2 w.if-place-machine.true) | else-place-machine w ↦ rw w.sum-is (sum_passed c.loop-i.invariant h c.requires.0 c.requires.1 w.if-place-machine.false) ]

pub returns : goal.returns
returns c = sum_end c.loop-i.invariant c.loop-i-test.false c.requires.0
