use Rattle.std.specs.Prelude.{◌+◌, ◌≤◌}
use Rattle.basics.proofs.Words.{List, ℕ, length}
use Rattle.card.specs.Layout.{parts_of}
use Rattle.join.specs.JoinedCard.{joined_parts}
use Rattle.join.specs.Writing.{placed, table_length, joined_bytes}
use Rattle.joined.proofs.Rest.{Rest}
use Rattle.join.proofs.card_parts.write_parts.Given as goal

abbrev pub invariant-loop-i : goal.invariant-loop-i
invariant-loop-i l =
    (l.i ≤ l.machines)
    × Rest (λ (part : List ℕ). part) (joined_parts l.lower l.other (parts_of l.card)) (placed (table_length l.card) (joined_bytes l.lower l.other l.card) l.initial.target) (table_length l.card + length (joined_bytes l.lower l.other l.card)) (length l.initial.target) l.i l.offset l.target
