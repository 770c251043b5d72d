-- A part of a card that is accepted.
use Rattle.std.specs.Prelude.{◌≡◌}
use Rattle.basics.specs.Words.{List, ℕ}
use Rattle.machine.specs.Part.{part_refusal}

-- a part that is accepted on some card
abbrev pub AcceptedPart : List ℕ → Type 0
AcceptedPart part = (S : ℕ) × (part_refusal S part ≡ 0)
