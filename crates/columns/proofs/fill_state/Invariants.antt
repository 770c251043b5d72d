use Rattle.std.specs.Prelude.{◌≡◌, ◌≤◌, ◌^◌}
use Rattle.basics.proofs.Words.{ℕ, length}
use Rattle.machine.specs.Part.{arc_count, arcs_of}
use Rattle.columns.proofs.AtHand.{StateIn}
use Rattle.columns.proofs.fill_state.Given as goal

abbrev pub invariant-loop-i : goal.invariant-loop-i
invariant-loop-i l = (l.i ≤ arc_count l.part) × (length l.steps ≡ length l.initial.steps) × ((x : ℕ) → l.input ≡ 2 ^ x → StateIn l.initial.steps l.steps (arcs_of l.part) l.state l.width l.place x l.i l.taken)
