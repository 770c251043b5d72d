-- Cards from before ending marks and kinds mean what they meant in the base. Assumes nothing.
use Rattle.std.specs.Prelude.{◌≡◌, ◌&&◌, ◌∷◌}
use Rattle.basics.proofs.Words.{refl, ap, ap₂, ◌∙◌, Bool, true, List, [], map, Option, some, none, ℕ, all_of, left, right}
use Rattle.machine.specs.declared.Pair.{Pair}
use Rattle.machine.specs.Machine.{start_state}
use Rattle.machine.specs.Part.{machine_of}
use Rattle.machine.specs.OldStates.{OldMachine, old_machine_of, old_ending_of, old_states, ends_as_before}
use Rattle.machine.specs.OldArcs.{step_by_sets, old_arcs, same_steps}
use Rattle.machine.specs.BaseParts.{base_part}
use Rattle.card.specs.Layout.{parts_of}
use Rattle.card.specs.Card.{machines_of, card_refusal}
use Rattle.card.specs.OldStates.{old_machines_of}
use Rattle.card.specs.BaseCards.{base_card_refusal, base_card, refused_in_base, accepted_is_base}
use Rattle.candidate.specs.Candidates.{add_marks, marks_from, is_some, is_complete, count_of, profile_of}

-- a machine takes every pair in turn, by the sets of its arcs, and ends in a final state, which costs nothing: the marks of the arcs taken, added
unfoldable pub base_marks_from : OldMachine → ℕ → List Pair → Option ℕ
base_marks_from m s [] = old_ending_of m s
base_marks_from m s (p ∷ ps) = elim (step_by_sets m.arcs s p) [ none ↦ none | some r ↦ add_marks r.1 (base_marks_from m r.0 ps) ]

abbrev pub base_marks_of : List Pair → OldMachine → Option ℕ
base_marks_of c m = base_marks_from m start_state c

-- complete, and the profile, in the base
abbrev pub base_complete : List OldMachine → List Pair → Bool
base_complete ms c = all_of (λ m. is_some (base_marks_of c m)) ms

abbrev pub base_profile : List OldMachine → List Pair → List ℕ
base_profile ms c = map (λ m. count_of (base_marks_of c m)) ms

-- the card is refused or accepted as in the base; every candidate is complete as it was there, and has the profile that it had there
pub record AsInBase (card : List ℕ) : Type 0 where
  pub refusal : card_refusal card ≡ base_card_refusal card
  pub complete : (c : List Pair) → is_complete (machines_of card) c ≡ base_complete (old_machines_of card) c
  pub profile : (c : List Pair) → profile_of (machines_of card) c ≡ base_profile (old_machines_of card) c

module _ (part : List ℕ) (old : base_part part ≡ true) where
  same_marks : (s : ℕ) (c : List Pair) → marks_from (machine_of part) s c ≡ base_marks_from (old_machine_of part) s c
  unfolding marks_from base_marks_from machine_of old_machine_of
  same_marks s [] = ends_as_before part (left (old_states part) (old_arcs part) old) s
  same_marks s (p ∷ ps) =
      ap (λ (o : Option (ℕ × ℕ)). elim o as (λ _. Option ℕ) [ none ↦ none | some r ↦ add_marks r.1 (marks_from (machine_of part) r.0 ps) ])
      (same_steps (machine_of part).arcs (right (old_states part) (old_arcs part) old) s p)
      ∙ go (step_by_sets (old_machine_of part).arcs s p) (λ t. same_marks t ps)
    where
      go : (o : Option (ℕ × ℕ)) → ((t : ℕ) → marks_from (machine_of part) t ps ≡ base_marks_from (old_machine_of part) t ps)
          → ◌≡◌ {A = Option ℕ} (elim o as (λ _. Option ℕ) [ none ↦ none | some r ↦ add_marks r.1 (marks_from (machine_of part) r.0 ps) ]) (elim o as (λ _. Option ℕ) [ none ↦ none | some r ↦ add_marks r.1 (base_marks_from (old_machine_of part) r.0 ps) ])
      go none h = refl
      go (some r) h = ap (add_marks r.1) (h r.0)

module _ (c : List Pair) where
  parts_complete : (parts : List (List ℕ)) → all_of base_part parts ≡ true → is_complete (map machine_of parts) c ≡ base_complete (map old_machine_of parts) c
  unfolding all_of is_complete
  parts_complete [] t = refl
  parts_complete (part ∷ parts) t =
      ap₂ (λ (a b : Bool). a && b) (ap is_some (same_marks part (left (base_part part) (all_of base_part parts) t) start_state c)) (parts_complete parts (right (base_part part) (all_of base_part parts) t))

  parts_profile : (parts : List (List ℕ)) → all_of base_part parts ≡ true → profile_of (map machine_of parts) c ≡ base_profile (map old_machine_of parts) c
  unfolding all_of profile_of
  parts_profile [] t = refl
  parts_profile (part ∷ parts) t =
      ap₂ (λ (n : ℕ) (ns : List ℕ). n ∷ ns) (ap count_of (same_marks part (left (base_part part) (all_of base_part parts) t) start_state c)) (parts_profile parts (right (base_part part) (all_of base_part parts) t))

-- a card whose state bytes are 0 and 1 and whose arcs have a zero byte
pub old_cards : (card : List ℕ) → base_card card → AsInBase card
unfolding machines_of old_machines_of
old_cards card t = record { refusal = refused_in_base card t; complete = λ c. parts_complete c (parts_of card) t; profile = λ c. parts_profile c (parts_of card) t }

-- so every card that the base accepted
pub accepted_cards : (card : List ℕ) → base_card_refusal card ≡ 0 → AsInBase card
accepted_cards card e = old_cards card (accepted_is_base card e)
