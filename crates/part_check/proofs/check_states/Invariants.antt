use Rattle.std.specs.Prelude.{◌≡◌, ◌+◌, ◌-◌}
use Rattle.basics.proofs.Words.{List, ℕ, leb, take, drop, all_of}
use Rattle.machine.specs.Part.{state_count, sound_states}
use Rattle.part_check.proofs.check_states.Given as goal

-- the slice that the loop goes through
abbrev pub gone_through : List ℕ → List ℕ
gone_through part = take (2 + state_count part - 2) (drop 2 part)

abbrev pub invariant-loop-byte : goal.invariant-loop-byte
invariant-loop-byte l = all_of (λ b. leb b 16) (drop l.byte-index (gone_through l.part)) ≡ sound_states l.part
