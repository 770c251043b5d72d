-- Cards from before kinds have the refusal that they had. Assumes nothing.
use Rattle.std.specs.Prelude.{◌≡◌}
use Rattle.basics.specs.Words.{true, List, ℕ, all_of}
use Rattle.machine.specs.OldArcs.{refusal_by_sets, old_arcs, same_refusal}
use Rattle.card.specs.Layout.{parts_of}
use Rattle.card.specs.Card.{card_refusal}
use Rattle.card.specs.OldCards.{refusal_by, refused_by}

-- a card's refusal as it was, by the sets of its arcs alone
abbrev pub card_refusal_by_sets : List ℕ → ℕ
card_refusal_by_sets card = refusal_by refusal_by_sets card

-- a card whose arcs all have 0 in the place of the kind is refused or accepted as before
pub refused_as_before : (card : List ℕ) → all_of old_arcs (parts_of card) ≡ true → card_refusal card ≡ card_refusal_by_sets card
refused_as_before card t = refused_by old_arcs refusal_by_sets same_refusal card t
