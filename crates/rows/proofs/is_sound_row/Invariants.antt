use Rattle.std.specs.Prelude.{◌≡◌, ◌≤◌}
use Rattle.rows.proofs.Rows.{zeros_from}
use Rattle.rows.proofs.is_sound_row.Given as goal

abbrev pub invariant-loop-machine : goal.invariant-loop-machine
invariant-loop-machine l = (l.machine ≤ 6) × (zeros_from l.row l.machine ≡ zeros_from l.row l.machines)
