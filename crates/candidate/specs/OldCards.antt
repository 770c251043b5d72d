-- Cards from before ending marks, whose state bytes are 0 and 1, mean what they meant. Assumes nothing.
use Rattle.std.specs.Prelude.{◌≡◌, ◌&&◌, ◌∷◌}
use Rattle.basics.proofs.Words.{refl, ap, ap₂, Bool, true, List, [], map, Option, some, none, ℕ, all_of, left, right}
use Rattle.machine.specs.declared.Pair.{Pair}
use Rattle.machine.specs.Machine.{Machine, start_state, step_of, step_among}
use Rattle.machine.specs.Part.{machine_of}
use Rattle.machine.specs.OldStates.{OldMachine, old_machine_of, old_ending_of, old_states, ends_as_before}
use Rattle.card.specs.Layout.{parts_of}
use Rattle.card.specs.Card.{machines_of}
use Rattle.card.specs.OldStates.{old_machines_of}
use Rattle.candidate.specs.Candidates.{add_marks, marks_from, is_some, is_complete, count_of, profile_of}

-- a machine takes every pair in turn and ends in a final state: the marks of the arcs taken, added
unfoldable pub old_marks_from : OldMachine → ℕ → List Pair → Option ℕ
old_marks_from m s [] = old_ending_of m s
old_marks_from m s (p ∷ ps) = elim (step_among m.arcs s p) [ none ↦ none | some r ↦ add_marks r.1 (old_marks_from m r.0 ps) ]

abbrev pub old_marks_of : List Pair → OldMachine → Option ℕ
old_marks_of c m = old_marks_from m start_state c

-- a candidate is complete as it was, and has the profile that it had
pub record MeansAsBefore (ms : List Machine) (olds : List OldMachine) (c : List Pair) : Type 0 where
  pub complete : is_complete ms c ≡ all_of (λ m. is_some (old_marks_of c m)) olds
  pub profile : profile_of ms c ≡ map (λ m. count_of (old_marks_of c m)) olds

module _ (part : List ℕ) (old : old_states part ≡ true) where
  same_marks : (s : ℕ) (c : List Pair) → marks_from (machine_of part) s c ≡ old_marks_from (old_machine_of part) s c
  unfolding marks_from old_marks_from machine_of old_machine_of
  same_marks s [] = ends_as_before part old s
  same_marks s (p ∷ ps) = go (step_of (machine_of part) s p) (λ t. same_marks t ps)
    where
      go : (o : Option (ℕ × ℕ)) → ((t : ℕ) → marks_from (machine_of part) t ps ≡ old_marks_from (old_machine_of part) t ps)
          → ◌≡◌ {A = Option ℕ} (elim o as (λ _. Option ℕ) [ none ↦ none | some r ↦ add_marks r.1 (marks_from (machine_of part) r.0 ps) ]) (elim o as (λ _. Option ℕ) [ none ↦ none | some r ↦ add_marks r.1 (old_marks_from (old_machine_of part) r.0 ps) ])
      go none h = refl
      go (some r) h = ap (add_marks r.1) (h r.0)

parts_same : (parts : List (List ℕ)) → all_of old_states parts ≡ true → (c : List Pair) → MeansAsBefore (map machine_of parts) (map old_machine_of parts) c
unfolding all_of is_complete profile_of
parts_same [] t c = record { complete = refl; profile = refl }
parts_same (part ∷ parts) t c =
    let e = same_marks part (left (old_states part) (all_of old_states parts) t) start_state c in
    let r = parts_same parts (right (old_states part) (all_of old_states parts) t) c in
    record {
      complete = ap₂ (λ (a b : Bool). a && b) (ap is_some e) r.complete;
      profile = ap₂ (λ (n : ℕ) (ns : List ℕ). n ∷ ns) (ap count_of e) r.profile;
    }

-- every candidate, on a card whose state bytes are 0 and 1
pub means_as_before : (card : List ℕ) → all_of old_states (parts_of card) ≡ true → (c : List Pair) → MeansAsBefore (machines_of card) (old_machines_of card) c
unfolding machines_of old_machines_of
means_as_before card t c = parts_same (parts_of card) t c
