-- The machines of a card by their numbers.
use Rattle.std.specs.Prelude.{◌≡◌, ◌<◌}
use Rattle.basics.proofs.Words.{ap, ◌∙◌, List, [], ℕ, length, get_or, length-map, map_at}
use Rattle.machine.specs.Machine.{Machine}
use Rattle.machine.specs.Part.{machine_of}
use Rattle.layout.specs.Layout.{part_of}
use Rattle.card.specs.Layout.{machine_count, parts_of}
use Rattle.card.specs.Card.{machines_of}
use Rattle.card.specs.Laws.Layout.{length_parts, part_at}

pub length_machines : (card : List ℕ) → length (machines_of card) ≡ machine_count card
unfolding machines_of
length_machines card = length-map (parts_of card) machine_of ∙ length_parts card

pub machine_at_lem : (card : List ℕ) (i : ℕ) → i < machine_count card → (d : Machine) → get_or (machines_of card) i d ≡ machine_of (part_of card i)
unfolding machines_of
machine_at_lem card i h d = map_at machine_of (parts_of card) i (rw length_parts h) d [] ∙ ap machine_of (part_at card i h [])
