use Rattle.std.specs.Prelude.{◌≡◌, ◌+◌, ◌≤◌}
use Rattle.basics.proofs.Words.{List, map, ℕ, length}
use Rattle.machine.specs.Part.{state_count, state_bytes}
use Rattle.joined.specs.JoinedMachine.{crossed}
use Rattle.joined.specs.Writing.{placed, joined_byte}
use Rattle.joined.proofs.Rest.{Rest}
use Rattle.joined.proofs.writing.write_endings.Given as goal

abbrev pub row : List ℕ → ℕ → List ℕ
row second b = map (joined_byte b) (state_bytes second)

abbrev pub invariant-loop-i : goal.invariant-loop-i
invariant-loop-i l =
    (l.i-end ≡ state_count l.first) × (l.i ≤ l.i-end)
    × Rest (row l.second) (state_bytes l.first) (placed l.at (crossed joined_byte (state_bytes l.first) (state_bytes l.second)) l.initial.target) (l.at + length (crossed joined_byte (state_bytes l.first) (state_bytes l.second))) (length l.initial.target) l.i l.next l.target
