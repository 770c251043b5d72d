-- A card's machines, and its refusal.
use Rattle.std.specs.Prelude.{◌∷◌}
use Rattle.basics.specs.Words.{Bool, List, [], map, ℕ, leb, product}
use Rattle.refusals.specs.Refusals.{refuse, first_of}
use Rattle.machine.specs.Machine.{Machine}
use Rattle.machine.specs.Part.{machine_of, state_count, part_refusal}
use Rattle.layout.specs.Layout.{laid_out}
use Rattle.card.specs.Layout.{machine_count, symbol_count, counted, parts_of}

-- the machines of a card, in card order
unfoldable pub machines_of : List ℕ → List Machine
machines_of card = map machine_of (parts_of card)

-- machines are checked in card order, each for 3, 4, 5
unfoldable pub parts_refusal : ℕ → List (List ℕ) → ℕ
parts_refusal S parts = first_of (map (part_refusal S) parts)

-- not refusal 6: P, the product of the state counts, is at most 128
abbrev pub few_states : List (List ℕ) → Bool
few_states parts = leb (product (map state_count parts)) 128

-- refusals 3 to 6 of parts
abbrev pub machines_refusal : ℕ → List (List ℕ) → ℕ
machines_refusal S parts = first_of (parts_refusal S parts ∷ refuse 6 (few_states parts) ∷ [])

-- 0 where the card is accepted, else the first refusal met
unfoldable pub card_refusal : List ℕ → ℕ
card_refusal card =
    first_of (refuse 1 (counted card) ∷ refuse 2 (laid_out (machine_count card) card) ∷ machines_refusal (symbol_count card) (parts_of card) ∷ [])
