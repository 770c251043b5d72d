use Rattle.basics.proofs.Words.{arith}
use Rattle.passing.proofs.Placing.{column_few, column_in}
use Rattle.tight.proofs.JointSteps.{sum_start, joint_none, joint_whole, highs_next, lows_next, highs_fit, lows_fit}
use Rattle.tight.proofs.joint_at.Goals as goal

pub loop-m-init : goal.loop-m-init
loop-m-init c = (sum_start _ _ _, sum_start _ _ _)

pub overflow_mul-step : goal.overflow_mul-step
overflow_mul-step c =
    omega (arith, column_few c.requires.0 _ c.requires.2)

pub overflow_add-step : goal.overflow_add-step
overflow_add-step c =
    omega (arith, column_few c.requires.0 _ c.requires.2)

pub offset_bounds-steps-output : goal.offset_bounds-steps-output
offset_bounds-steps-output c =
    omega (arith, column_few c.requires.0 _ c.requires.2)

pub bounds-steps-output : goal.bounds-steps-output
bounds-steps-output c =
    column_in c.requires.0 _ c.requires.2 _ c.loop-m-test.true _ c.index.ensures.0

pub returns-then-step : goal.returns-then-step
returns-then-step c =
    joint_none c.requires.0 c.requires.1 _ c.requires.3 c.loop-m.invariant.0 c.loop-m.invariant.1 c.loop-m-test.true _ c.index.ensures.0 c.if-step.true

pub overflow_add-high : goal.overflow_add-high
overflow_add-high c =
    omega (arith, highs_fit c.requires.0 c.requires.1 _ c.requires.3 c.loop-m.invariant.0 c.loop-m.invariant.1 c.loop-m-test.true _ c.index.ensures.0 c.if-step.false _ c.high_cell-high.ensures)

pub overflow_add-low : goal.overflow_add-low
overflow_add-low c =
    omega (arith, lows_fit c.requires.0 c.requires.1 _ c.requires.3 c.loop-m.invariant.0 c.loop-m.invariant.1 c.loop-m-test.true _ c.index.ensures.0 _ c.low_cell-low.ensures)

pub loop-m-preserved : goal.loop-m-preserved
loop-m-preserved c = (
  highs_next c.requires.0 c.requires.1 _ c.requires.3 c.loop-m.invariant.0 c.loop-m.invariant.1 c.loop-m-test.true _ c.index.ensures.0 c.if-step.false _ c.high_cell-high.ensures,
  lows_next c.requires.0 c.requires.1 _ c.requires.3 c.loop-m.invariant.0 c.loop-m.invariant.1 c.loop-m-test.true _ c.index.ensures.0 _ c.low_cell-low.ensures,
)

pub returns : goal.returns
returns c =
    joint_whole c.requires.0 c.requires.1 _ c.requires.3 c.loop-m.invariant.0 c.loop-m.invariant.1 (omega arith) c.loop-m-test.false
