-- The card with two of its machines joined.
use Rattle.std.specs.Prelude.{◌≡◌, ◌&&◌, ◌||◌, ◌∷◌, ◌++◌, ◌⊎◌, ◌<◌}
use Rattle.basics.specs.Words.{Bool, true, not, List, [], ℕ, min, max, length, drop, eqb, ltb, leb}
use Rattle.refusals.specs.Refusals.{refuse, first_of, unless_refused}
use Rattle.machine.specs.Machine.{Machine}
use Rattle.card.specs.declared.Packed.{Packed}
use Rattle.card.specs.Layout.{machine_count, symbol_count, parts_of}
use Rattle.card.specs.Card.{machines_of, card_refusal}
use Rattle.card.specs.OfParts.{card_of}
use Rattle.join.specs.Merged.{merged_at}
use Rattle.join.specs.JoinedMachine.{machine_at, joined_machine, markless}
pub use Rattle.joined.specs.MachineBytes.{little_endian, arc_bytes, state_byte, fits_part, joined_part}
unfoldable pub use Rattle.joined.specs.MachineBytes.{machine_bytes}

-- two machines of a card that may be joined: one has no marks, and the joined one has at most 32 states and 255 arcs
pub record MayJoin (i j : ℕ) (ms : List Machine) : Type 0 where
  pub order : i < j
  pub within : j < length ms
  pub unmarked : (markless (machine_at ms i) ≡ true) ⊎ (markless (machine_at ms j) ≡ true)
  pub fits : fits_part (joined_machine (machine_at ms i) (machine_at ms j)) ≡ true

-- ---- the card

-- the parts of a card with i and j joined, i < j
abbrev pub joined_parts : ℕ → ℕ → List (List ℕ) → List (List ℕ)
joined_parts i j parts = merged_at joined_part i j parts

-- the card of as many symbols with these parts
unfoldable pub joined_card : ℕ → ℕ → List ℕ → List ℕ
joined_card i j card = card_of (symbol_count card) (joined_parts i j (parts_of card))

-- ---- joining the machines a and b of a card, in either order

abbrev pub lower : ℕ → ℕ → ℕ
lower a b = min a b

abbrev pub other : ℕ → ℕ → ℕ
other a b = max a b

-- not refusal 27: two different machines of the card, one of them without marks
unfoldable pub joinable : List ℕ → ℕ → ℕ → Bool
joinable card a b =
    not (eqb a b) && ltb a (machine_count card) && ltb b (machine_count card) && (markless (machine_at (machines_of card) a) || markless (machine_at (machines_of card) b))

-- not refusal 28: the joined machine fits a part
unfoldable pub join_fits : List ℕ → ℕ → ℕ → Bool
join_fits card a b = fits_part (joined_machine (machine_at (machines_of card) (lower a b)) (machine_at (machines_of card) (other a b)))

-- the new card
abbrev pub joining : List ℕ → ℕ → ℕ → List ℕ
joining card a b = joined_card (lower a b) (other a b) card

-- the checks of the card and of the two machines, 1 to 6, 27, 28: 0 where the two may be joined
unfoldable pub machines_refusal : List ℕ → ℕ → ℕ → ℕ
machines_refusal card a b = first_of (card_refusal card ∷ refuse 27 (joinable card a b) ∷ refuse 28 (join_fits card a b) ∷ [])

-- 0 where the new card fills the front of a target of a length, else the first refusal: 1 to 6, 27, 28, 18
unfoldable pub joining_refusal : List ℕ → ℕ → ℕ → ℕ → ℕ
joining_refusal card a b room = first_of (machines_refusal card a b ∷ refuse 18 (leb (length (joining card a b)) room) ∷ [])

-- what joining answers, and the target at exit: the new card in front, its other bytes as they were
unfoldable pub joining_answer : List ℕ → ℕ → ℕ → ℕ → Packed
joining_answer card a b room =
    unless_refused (joining_refusal card a b room) (record { number = 0; length = length (joining card a b) }) (λ n. record { number = n; length = 0 })

unfoldable pub joining_target : List ℕ → ℕ → ℕ → List ℕ → List ℕ
joining_target card a b target =
    unless_refused (joining_refusal card a b (length target)) (joining card a b ++ drop (length (joining card a b)) target) (λ n. target)
