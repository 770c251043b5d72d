-- The new card: what the functions that write it put where.
use Rattle.std.specs.Prelude.{◌≡◌, ◌+◌, ◌*◌, ◌-◌}
use Rattle.basics.specs.Words.{cond, List, ℕ, length, ltb, joined}
use Rattle.machine.specs.Part.{state_count, arcs_of}
use Rattle.layout.specs.Layout.{part_of}
use Rattle.card.specs.Layout.{machine_count, parts_of}
use Rattle.card.specs.Card.{machines_of, card_refusal}
use Rattle.join.specs.JoinedMachine.{joined_arcs}
use Rattle.join.specs.JoinedCard.{joined_parts, MayJoin}
unfoldable pub use Rattle.joined.specs.Writing.{placed}

-- the number that a machine had, where the machine j has gone
abbrev pub old_number : ℕ → ℕ → ℕ
old_number j k = cond (ltb k j) k (k + 1)

-- what the new card's table takes up, and what stands behind it
abbrev pub table_length : List ℕ → ℕ
table_length card = 2 + 4 * (machine_count card - 1)

abbrev pub joined_bytes : ℕ → ℕ → List ℕ → List ℕ
joined_bytes i j card = joined (λ part. part) (joined_parts i j (parts_of card))

-- two machines of an accepted card that may be joined, i < j
pub record CardJoins (card : List ℕ) (i j : ℕ) : Type 0 where
  pub accepted : card_refusal card ≡ 0
  pub may : MayJoin i j (machines_of card)

-- the arcs of the joined machine
abbrev pub JoinedArcCount : List ℕ → ℕ → ℕ → ℕ → Type 0
JoinedArcCount card i j arcs = arcs ≡ length (joined_arcs (state_count (part_of card j)) (arcs_of (part_of card i)) (arcs_of (part_of card j)))
