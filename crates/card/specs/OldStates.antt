-- Cards from before ending marks, whose state bytes are 0 and 1, have the refusal that they had. Assumes nothing.
use Rattle.std.specs.Prelude.{◌≡◌}
use Rattle.basics.specs.Words.{true, List, map, ℕ, all_of}
use Rattle.machine.specs.OldStates.{OldMachine, old_machine_of, old_states, old_part_refusal}
use Rattle.machine.specs.OldStates as by_part
use Rattle.card.specs.Layout.{parts_of}
use Rattle.card.specs.Card.{card_refusal}
use Rattle.card.specs.OldCards.{refusal_by, refused_by}

-- the machines that a card's bytes were
unfoldable pub old_machines_of : List ℕ → List OldMachine
old_machines_of card = map old_machine_of (parts_of card)

-- a card's refusal as it was
abbrev pub old_card_refusal : List ℕ → ℕ
old_card_refusal card = refusal_by old_part_refusal card

pub refused_as_before : (card : List ℕ) → all_of old_states (parts_of card) ≡ true → card_refusal card ≡ old_card_refusal card
refused_as_before card t = refused_by old_states old_part_refusal by_part.refused_as_before card t
