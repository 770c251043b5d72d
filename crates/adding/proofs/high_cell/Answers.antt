use Rattle.basics.proofs.Words.{sym, eq-eqb}
use Rattle.adding.specs.Cells.{high_cell}
use Rattle.adding.specs.Laws.Numbers.{some_step}
use Rattle.adding.proofs.high_cell.Goals as goal

pub returns-then-step-eq-NO_STEP : goal.returns-then-step-eq-NO_STEP
unfolding high_cell
returns-then-step-eq-NO_STEP c = rw (eq-eqb c.args.step 65535 c.if-step-eq-NO_STEP.true)

pub returns : goal.returns
returns c = rw (c.from.ensures, c.from-2.ensures) (sym (some_step c.args.step c.args.scale c.args.weight c.if-step-eq-NO_STEP.false))
