-- Cards from before ending marks and kinds have the refusal that the base gave them. Assumes nothing.
use Rattle.std.specs.Prelude.{◌≡◌, ◌∷◌}
use Rattle.basics.proofs.Words.{refl, true, List, [], map, ℕ, all_of, both}
use Rattle.refusals.specs.Refusals.{refuse, first_of}
use Rattle.machine.specs.BaseParts.{base_refusal, base_part, refused_as_in_base, accepted_in_base}
use Rattle.layout.specs.Layout.{laid_out}
use Rattle.card.specs.Layout.{machine_count, symbol_count, counted, parts_of}
use Rattle.card.specs.Card.{few_states, card_refusal}
use Rattle.card.specs.OldCards.{refusal_by, refused_by}
use Rattle.card.specs.Laws.Search.{first_passed, rest_passed}

-- a card's refusal in the base
abbrev pub base_card_refusal : List ℕ → ℕ
base_card_refusal card = refusal_by base_refusal card

-- state bytes 0 and 1, and a zero in every arc
abbrev pub base_card : List ℕ → Type 0
base_card card = all_of base_part (parts_of card) ≡ true

pub refused_in_base : (card : List ℕ) → base_card card → card_refusal card ≡ base_card_refusal card
refused_in_base card t = refused_by base_part base_refusal refused_as_in_base card t

-- the base accepted no other card
base_parts : (S : ℕ) (parts : List (List ℕ)) → first_of (map (base_refusal S) parts) ≡ 0 → all_of base_part parts ≡ true
unfolding all_of
base_parts S [] e = refl
base_parts S (part ∷ parts) e =
    both (accepted_in_base S part (first_passed (base_refusal S part) (map (base_refusal S) parts) e)) (base_parts S parts (rest_passed (base_refusal S part) (map (base_refusal S) parts) e))

pub accepted_is_base : (card : List ℕ) → base_card_refusal card ≡ 0 → base_card card
unfolding refusal_by
accepted_is_base card e =
    let b = refuse 2 (laid_out (machine_count card) card) in
    let p = first_of (map (base_refusal (symbol_count card)) (parts_of card)) in
    let d = refuse 6 (few_states (parts_of card)) in
    base_parts (symbol_count card) (parts_of card) (first_passed p (d ∷ []) (rest_passed b (p ∷ d ∷ []) (rest_passed (refuse 1 (counted card)) (b ∷ p ∷ d ∷ []) e)))
