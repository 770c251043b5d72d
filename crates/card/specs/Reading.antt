-- Reading a part: its offset and length in the card.
use Rattle.std.specs.Prelude.{Result, Ok, Err, ◌∷◌}
use Rattle.basics.specs.Words.{List, [], ℕ, ltb}
use Rattle.refusals.specs.declared.Refusal.{Refusal}
use Rattle.refusals.specs.Refusals.{number_of, refuse, first_of, unless_refused}
use Rattle.card.specs.declared.PartPlace.{PartPlace}
use Rattle.card.specs.declared.Stretch.{Stretch}
use Rattle.layout.specs.Layout.{offset_of, length_of}
use Rattle.card.specs.Layout.{machine_count}
use Rattle.card.specs.Card.{card_refusal}

-- 0 where part i can be read, else the first refusal: 1 to 6, 17
abbrev pub reading_refusal : List ℕ → ℕ → ℕ
reading_refusal card i = first_of (card_refusal card ∷ refuse 17 (ltb i (machine_count card)) ∷ [])

abbrev pub part_place_of : Result Stretch Refusal → PartPlace
part_place_of (Ok s) = record { number = 0; offset = s.offset; length = s.length }
part_place_of (Err r) = record { number = number_of r; offset = 0; length = 0 }

-- reading part i of a card
unfoldable pub reading : List ℕ → ℕ → PartPlace
reading card i =
    unless_refused (reading_refusal card i)
    (record { number = 0; offset = offset_of card i; length = length_of card i })
    (λ n. record { number = n; offset = 0; length = 0 })
