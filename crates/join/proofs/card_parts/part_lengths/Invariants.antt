use Rattle.std.specs.Prelude.{◌≡◌, ◌<◌, ◌≤◌}
use Rattle.basics.proofs.Words.{[], ℕ, length, get_or}
use Rattle.card.specs.Layout.{parts_of}
use Rattle.join.specs.JoinedCard.{joined_parts}
use Rattle.join.proofs.card_parts.part_lengths.Given as goal

abbrev pub invariant-loop-i : goal.invariant-loop-i
invariant-loop-i l =
    (length l.lengths ≡ 6) × (l.i ≤ l.machines) × ((k : ℕ) → k < l.i → get_or l.lengths k 0 ≡ length (get_or (joined_parts l.lower l.other (parts_of l.card)) k []))
