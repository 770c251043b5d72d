use Rattle.std.specs.Prelude.{◌-◌}
use Rattle.basics.proofs.Words.{arith}
use Rattle.adding.proofs.Rows.{states_pre, states_next, highs_small, lows_small}
use Rattle.adding.proofs.add_machine.Goals as goal

pub add_state-requires : goal.add_state-requires
add_state-requires c =
    let a = c.cells_at.ensures in
    states_pre _ c.requires.few c.requires.high_fits (highs_small c.requires) (c.loop-state.state - 1) (omega (arith, c.loop-state.invariant.4, c.loop-state-test.true)) _ c.loop-state.invariant.0 (omega (arith, c.loop-state-test.true)) a.high_size a.high_cell_lem

pub add_state-requires-in-loop-state : goal.add_state-requires-in-loop-state
add_state-requires-in-loop-state c =
    let a = c.cells_at.ensures in
    states_pre _ c.requires.few c.requires.low_fits (lows_small c.requires) (c.loop-state.state - 1) (omega (arith, c.loop-state.invariant.4, c.loop-state-test.true)) _ c.loop-state.invariant.1 (omega (arith, c.loop-state-test.true)) a.low_size a.low_cell_lem

pub loop-state-preserved : goal.loop-state-preserved
loop-state-preserved c =
    let a = c.cells_at.ensures in
    let t = c.loop-state-test.true in
    let n = c.loop-state.state - 1 in (
      states_next _ c.requires.few c.requires.high_fits (highs_small c.requires) n (omega (arith, c.loop-state.invariant.4, t)) _ c.loop-state.invariant.0 (omega (arith, t)) a.high_size a.high_cell_lem c.add_state.ensures,
      states_next _ c.requires.few c.requires.low_fits (lows_small c.requires) n (omega (arith, c.loop-state.invariant.4, t)) _ c.loop-state.invariant.1 (omega (arith, t)) a.low_size a.low_cell_lem c.add_state-in-loop-state.ensures,
      a.high_size,
      a.low_size,
      omega (arith, c.loop-state.invariant.4),
    )
