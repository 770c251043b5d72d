-- Cards that lack one arc of another, and the bytes of one of them.
use Rattle.std.specs.Prelude.{◌≡◌, ◌++◌, ◌+◌, ◌*◌, ◌-◌, ◌<◌}
use Rattle.basics.specs.Words.{List, map, ℕ, length, take, drop, set, joined}
use Rattle.machine.specs.Part.{state_count, arc_count}
use Rattle.card.specs.Layout.{machine_count, symbol_count, parts_of, part_of}
use Rattle.card.specs.Card.{machines_of}
use Rattle.card.specs.Packing.{packed}
use Rattle.trimming.specs.Travelling.{machines_without}

-- a card has an arc j of machine i
pub record HasArc (card : List ℕ) (i j : ℕ) : Type 0 where
  pub machine : i < machine_count card
  pub arc : j < arc_count (part_of card i)

-- a card differs from another only by lacking arc j of its machine i
pub record LacksArc (card : List ℕ) (i j : ℕ) (trimmed : List ℕ) : Type 0 where
  pub has : HasArc card i j
  pub symbols : symbol_count trimmed ≡ symbol_count card
  pub count : machine_count trimmed ≡ machine_count card
  pub machines : machines_of trimmed ≡ machines_without i j (machines_of card)

-- ---- the bytes of one

-- where the 20 bytes of arc j of a part start
abbrev pub arc_place : List ℕ → ℕ → ℕ
arc_place part j = 2 + state_count part + 20 * j

-- a part rebuilt without its arc j: the arc's bytes left out, and one arc fewer said
unfoldable pub part_without : ℕ → List ℕ → List ℕ
part_without j part = set (take (arc_place part j) part ++ drop (arc_place part j + 20) part) 1 (arc_count part - 1)

-- the parts of a card, that of machine i rebuilt without its arc j
unfoldable pub parts_without : ℕ → ℕ → List ℕ → List (List ℕ)
parts_without i j card = set (parts_of card) i (part_without j (part_of card i))

-- the card that they pack into
unfoldable pub card_without : ℕ → ℕ → List ℕ → List ℕ
card_without i j card = packed (symbol_count card) (map length (parts_without i j card)) (joined (λ part. part) (parts_without i j card))
