use Rattle.std.specs.Prelude.{◌≡◌, ◌≤◌}
use Rattle.basics.proofs.Words.{drop, all_of}
use Rattle.machine.specs.Part.{state_count, state_bytes, ending_byte}
use Rattle.joined.specs.JoinedMachine.{ends_free}
use Rattle.joined.proofs.endings_are_free.Given as goal

abbrev pub invariant-loop-i : goal.invariant-loop-i
invariant-loop-i l = (l.i-end ≡ state_count l.part) × (l.i ≤ l.i-end) × (all_of (λ b. ends_free (ending_byte b)) (drop l.i (state_bytes l.part)) ≡ all_of (λ b. ends_free (ending_byte b)) (state_bytes l.part))
