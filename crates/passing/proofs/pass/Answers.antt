use Rattle.basics.proofs.Words.{sym, ◌∙◌, arith}
use Rattle.passing.proofs.Placing.{column_few, column_in, passed_start, mark_fits, in_states, in_marks, step_few, passed_next, passed_states, passed_marks}
use Rattle.passing.proofs.pass.Goals as goal

pub loop-m-init : goal.loop-m-init
loop-m-init c =
    passed_start c.requires.0 c.requires.1 c.requires.2

pub overflow_mul-step : goal.overflow_mul-step
overflow_mul-step c = omega (arith, column_few c.requires.0.columns _ c.requires.0.output)

pub overflow_add-step : goal.overflow_add-step
overflow_add-step c = omega (arith, column_few c.requires.0.columns _ c.requires.0.output)

pub offset_bounds-steps-output : goal.offset_bounds-steps-output
offset_bounds-steps-output c = omega (arith, column_few c.requires.0.columns _ c.requires.0.output)

pub bounds-steps-output : goal.bounds-steps-output
bounds-steps-output c =
    column_in c.requires.0.columns _ c.requires.0.output _ c.loop-m-test.true _ c.index.ensures.0

pub overflow_cast-states : goal.overflow_cast-states
overflow_cast-states c =
    omega (arith, step_few c.requires.0 c.requires.1 c.loop-m.invariant c.loop-m-test.true _ c.index.ensures.0)

pub bounds-states-m : goal.bounds-states-m
bounds-states-m c =
    in_states c.requires.0 c.requires.1 c.loop-m.invariant c.loop-m-test.true

pub bounds-marks-m : goal.bounds-marks-m
bounds-marks-m c =
    in_marks c.requires.0 c.requires.1 c.loop-m.invariant c.loop-m-test.true

pub overflow_add-marks : goal.overflow_add-marks
overflow_add-marks c =
    omega (arith, mark_fits c.requires.0 c.requires.1 c.loop-m.invariant)

pub bounds-marks-m-in-loop-m : goal.bounds-marks-m-in-loop-m
bounds-marks-m-in-loop-m c =
    in_marks c.requires.0 c.requires.1 c.loop-m.invariant c.loop-m-test.true

pub loop-m-preserved : goal.loop-m-preserved
loop-m-preserved c =
    passed_next c.requires.0 c.requires.1 c.loop-m.invariant c.loop-m-test.true _ c.index.ensures.0

pub shape_of-states : goal.shape_of-states
shape_of-states c =
    c.loop-m.invariant.states_size ∙ sym c.requires.2

pub shape_of-marks : goal.shape_of-marks
shape_of-marks c =
    c.loop-m.invariant.marks_size ∙ sym c.requires.1.size

pub returns : goal.returns
returns c =
    (passed_states c.requires.0 c.requires.1 c.loop-m.invariant c.loop-m-test.false, passed_marks c.requires.0 c.requires.1 c.loop-m.invariant c.loop-m-test.false)
