use Rattle.std.specs.Prelude.{◌≡◌}
use Rattle.basics.proofs.Words.{ℕ, length, get_or}
use Rattle.tables.proofs.JointRows.{RowTo}
use Rattle.adding.specs.Cells.{high_cell, low_cell, step_at}
use Rattle.adding.proofs.cells_at.Given as goal

abbrev pub invariant-loop-j : goal.invariant-loop-j
invariant-loop-j l =
    RowTo (λ k. high_cell l.scale l.upper (step_at l.steps l.width (get_or {A = ℕ} l.four k 0) l.place)) 4 l.high l.j
    × RowTo (λ k. low_cell l.lower (step_at l.steps l.width (get_or {A = ℕ} l.four k 0) l.place)) 4 l.low l.j
    × (length l.high ≡ length l.initial.high)
    × (length l.low ≡ length l.initial.low)
