use Rattle.std.specs.Prelude.{◌≡◌, ◌∷◌, ◌+◌, ◌≤◌}
use Rattle.basics.proofs.Words.{List, [], ℕ, length, joined}
use Rattle.machine.specs.Part.{state_count, state_bytes}
use Rattle.joined.specs.Writing.{placed, joined_byte}
use Rattle.joined.proofs.Rest.{Rest}
use Rattle.joined.proofs.writing.write_ending.Given as goal

abbrev pub one_byte : ℕ → ℕ → List ℕ
one_byte byte b = joined_byte byte b ∷ []

abbrev pub invariant-loop-i : goal.invariant-loop-i
invariant-loop-i l =
    (l.i-end ≡ state_count l.second) × (l.i ≤ l.i-end)
    × Rest (one_byte l.byte) (state_bytes l.second) (placed l.at (joined (one_byte l.byte) (state_bytes l.second)) l.initial.target) (l.at + length (joined (one_byte l.byte) (state_bytes l.second))) (length l.initial.target) l.i (l.at + l.i) l.target
