-- A card's refusal, by the refusal that its parts had before a request. Assumes nothing.
use Rattle.std.specs.Prelude.{◌≡◌, ◌∷◌}
use Rattle.basics.proofs.Words.{refl, ap, ap₂, ◌∙◌, Bool, true, List, [], map, ℕ, zero, suc, all_of, left, right}
use Rattle.refusals.specs.Refusals.{refuse, first_of}
use Rattle.machine.specs.Part.{part_refusal}
use Rattle.layout.specs.Layout.{laid_out}
use Rattle.card.specs.Layout.{machine_count, symbol_count, counted, parts_of}
use Rattle.card.specs.Card.{few_states, parts_refusal, card_refusal}

-- 1, 2, each part for what it was refused by on a card of S symbols, 6
unfoldable pub refusal_by : (ℕ → List ℕ → ℕ) → List ℕ → ℕ
refusal_by ofPart card =
    first_of
    (refuse 1 (counted card) ∷ refuse 2 (laid_out (machine_count card) card) ∷ first_of (map (ofPart (symbol_count card)) (parts_of card)) ∷ refuse 6 (few_states (parts_of card)) ∷ [])

in_turn : (a b p d : ℕ) → first_of (a ∷ b ∷ first_of (p ∷ d ∷ []) ∷ []) ≡ first_of (a ∷ b ∷ p ∷ d ∷ [])
in_turn (suc a) b p d = refl
in_turn zero (suc b) p d = refl
in_turn zero zero (suc p) d = refl
in_turn zero zero zero (suc d) = refl
in_turn zero zero zero zero = refl

-- parts of a sort have the refusal that they had
module _ (sort : List ℕ → Bool) (ofPart : ℕ → List ℕ → ℕ) (same : (S : ℕ) (part : List ℕ) → sort part ≡ true → part_refusal S part ≡ ofPart S part) where
  refusals_same : (S : ℕ) (parts : List (List ℕ)) → all_of sort parts ≡ true → map (part_refusal S) parts ≡ map (ofPart S) parts
  unfolding all_of
  refusals_same S [] t = refl
  refusals_same S (part ∷ parts) t =
      ap₂ (λ (n : ℕ) (ns : List ℕ). n ∷ ns) (same S part (left (sort part) (all_of sort parts) t)) (refusals_same S parts (right (sort part) (all_of sort parts) t))

  -- and so has a card of them
  pub refused_by : (card : List ℕ) → all_of sort (parts_of card) ≡ true → card_refusal card ≡ refusal_by ofPart card
  unfolding card_refusal parts_refusal refusal_by
  refused_by card t =
      in_turn (refuse 1 (counted card)) (refuse 2 (laid_out (machine_count card) card)) (parts_refusal (symbol_count card) (parts_of card)) (refuse 6 (few_states (parts_of card)))
      ∙ ap (λ (ns : List ℕ). first_of (refuse 1 (counted card) ∷ refuse 2 (laid_out (machine_count card) card) ∷ first_of ns ∷ refuse 6 (few_states (parts_of card)) ∷ []))
      (refusals_same (symbol_count card) (parts_of card) t)
