use Rattle.std.specs.Prelude.{◌≡◌, ◌+◌, ◌≤◌}
use Rattle.basics.proofs.Words.{length, get_or}
use Rattle.adding.specs.Cells.{high_cell, low_cell, step_at}
use Rattle.adding.proofs.Rows.{StatesTo}
use Rattle.adding.proofs.add_machine.Given as goal

abbrev pub invariant-loop-state : goal.invariant-loop-state
invariant-loop-state l =
    StatesTo (λ s j. high_cell l.scale l.upper (step_at l.steps l.width (get_or l.four j 0) (l.place + s))) l.initial.high l.high l.states l.codes l.state
    × StatesTo (λ s j. low_cell l.lower (step_at l.steps l.width (get_or l.four j 0) (l.place + s))) l.initial.low l.low l.states l.codes l.state
    × (length l.high_cells ≡ 4)
    × (length l.low_cells ≡ 4)
    × (l.state ≤ l.states)
