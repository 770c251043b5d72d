use Rattle.basics.proofs.Words.{sym, arith}
use Rattle.refusals.proofs.Refusals.{passes_with, refuses_with}
use Rattle.weights.proofs.Checking.{other_count, one_above, none_above, one_passes}
use Rattle.weights.proofs.checks.check_weights.Goals as goal

pub returns-then-weights-machines : goal.returns-then-weights-machines
returns-then-weights-machines c = sym (refuses_with 26 (other_count c.args.machines c.args.weights.now c.if-weights-machines.true))

pub returns-then-weight-gt-LIMIT : goal.returns-then-weight-gt-LIMIT
returns-then-weight-gt-LIMIT c =
    sym (refuses_with 26 (one_above c.args.machines c.args.weights.now c.loop-weight.invariant.0 c.loop-weight.weight-index (omega arith) (omega arith) c.loop-weight.invariant.2))

pub loop-weight-preserved : goal.loop-weight-preserved
loop-weight-preserved c =
    (c.loop-weight.invariant.0, omega arith, one_passes c.args.weights.now c.loop-weight.weight-index (omega arith) (omega arith) c.loop-weight.invariant.2)

pub returns : goal.returns
returns c =
    sym (passes_with 26 (none_above c.args.machines c.args.weights.now c.loop-weight.invariant.0 c.loop-weight.weight-index (omega arith) c.loop-weight.invariant.2))
