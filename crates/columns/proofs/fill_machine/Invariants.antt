use Rattle.std.specs.Prelude.{◌≡◌, ◌≤◌, ◌^◌}
use Rattle.basics.proofs.Words.{ℕ, length}
use Rattle.machine.specs.Part.{state_count, arc_count, arcs_of}
use Rattle.columns.proofs.Arcs.{ArcsIn}
use Rattle.columns.proofs.fill_machine.Given as goal

abbrev pub invariant-loop-i : goal.invariant-loop-i
invariant-loop-i l = (l.i ≤ arc_count l.part) × (length l.steps ≡ length l.initial.steps) × ((x : ℕ) → l.input ≡ 2 ^ x → ArcsIn l.initial.steps l.steps (arcs_of l.part) (state_count l.part) l.width l.first x l.i l.taken)
