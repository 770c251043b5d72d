use Rattle.adding.proofs.Rows.{state_next}
use Rattle.adding.proofs.add_state.Goals as goal

pub loop-code-preserved : goal.loop-code-preserved
loop-code-preserved c =
    state_next c.requires c.loop-code.invariant c.loop-code-test.true c.add_cells.ensures
