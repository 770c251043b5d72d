-- Cards from before kinds, whose arcs have 0 in the place of the kind, mean what they meant. Assumes nothing.
use Rattle.std.specs.Prelude.{◌≡◌, ◌&&◌, ◌∷◌}
use Rattle.basics.proofs.Words.{refl, ap, ap₂, ◌∙◌, Bool, true, List, [], map, Option, some, none, ℕ, all_of, left, right}
use Rattle.machine.specs.declared.Pair.{Pair}
use Rattle.machine.specs.Machine.{Machine, start_state, ending_of}
use Rattle.machine.specs.Part.{machine_of}
use Rattle.machine.specs.OldArcs.{step_by_sets, old_arc, old_arcs, same_steps}
use Rattle.card.specs.Layout.{parts_of}
use Rattle.card.specs.Card.{machines_of}
use Rattle.candidate.specs.Candidates.{add_marks, marks_from, marks_of, is_some, is_complete, count_of, profile_of}

-- a machine takes every pair in turn, by the sets of its arcs alone, and ends in a final state: the marks
unfoldable pub marks_by_sets : Machine → ℕ → List Pair → Option ℕ
marks_by_sets m s [] = ending_of m s
marks_by_sets m s (p ∷ ps) = elim (step_by_sets m.arcs s p) [ none ↦ none | some r ↦ add_marks r.1 (marks_by_sets m r.0 ps) ]

-- every step is as before; so a candidate is complete as before, and has the profile that it had
pub record TakesAsBefore (ms : List Machine) (c : List Pair) : Type 0 where
  pub complete : is_complete ms c ≡ all_of (λ m. is_some (marks_by_sets m start_state c)) ms
  pub profile : profile_of ms c ≡ map (λ m. count_of (marks_by_sets m start_state c)) ms

module _ (m : Machine) (old : all_of old_arc m.arcs ≡ true) where
  same_marks : (s : ℕ) (c : List Pair) → marks_from m s c ≡ marks_by_sets m s c
  unfolding marks_from marks_by_sets
  same_marks s [] = refl
  same_marks s (p ∷ ps) =
      ap (λ (o : Option (ℕ × ℕ)). elim o as (λ _. Option ℕ) [ none ↦ none | some r ↦ add_marks r.1 (marks_from m r.0 ps) ]) (same_steps m.arcs old s p)
      ∙ go (step_by_sets m.arcs s p) (λ t. same_marks t ps)
    where
      go : (o : Option (ℕ × ℕ)) → ((t : ℕ) → marks_from m t ps ≡ marks_by_sets m t ps)
          → ◌≡◌ {A = Option ℕ} (elim o as (λ _. Option ℕ) [ none ↦ none | some r ↦ add_marks r.1 (marks_from m r.0 ps) ]) (elim o as (λ _. Option ℕ) [ none ↦ none | some r ↦ add_marks r.1 (marks_by_sets m r.0 ps) ])
      go none h = refl
      go (some r) h = ap (add_marks r.1) (h r.0)

part_same : (part : List ℕ) → old_arcs part ≡ true → (c : List Pair) → marks_of c (machine_of part) ≡ marks_by_sets (machine_of part) start_state c
unfolding machine_of
part_same part t c = same_marks (machine_of part) t start_state c

parts_same : (parts : List (List ℕ)) → all_of old_arcs parts ≡ true → (c : List Pair) → TakesAsBefore (map machine_of parts) c
unfolding all_of is_complete profile_of
parts_same [] t c = record { complete = refl; profile = refl }
parts_same (part ∷ parts) t c =
    let e = part_same part (left (old_arcs part) (all_of old_arcs parts) t) c in
    let r = parts_same parts (right (old_arcs part) (all_of old_arcs parts) t) c in
    record {
      complete = ap₂ (λ (a b : Bool). a && b) (ap is_some e) r.complete;
      profile = ap₂ (λ (n : ℕ) (ns : List ℕ). n ∷ ns) (ap count_of e) r.profile;
    }

-- every candidate, on a card whose arcs all have 0 in the place of the kind
pub takes_as_before : (card : List ℕ) → all_of old_arcs (parts_of card) ≡ true → (c : List Pair) → TakesAsBefore (machines_of card) c
unfolding machines_of
takes_as_before card t c = parts_same (parts_of card) t c
