-- The theorem on joined machines, over decoded machines: a candidate is complete with the two joined exactly when it was, and its profile is the
-- old one with the two counts added; and the joined machines are sound, with as many joint states. Assumes nothing.
use Rattle.std.specs.Prelude.{◌≡◌, ◌&&◌, ◌↔◌, ◌+◌, ◌*◌, ◌<◌}
use Rattle.basics.proofs.Words.{refl, sym, ap, ◌∙◌, true, List, Option, some, none, ℕ, arith, length, length-map, all_of, clash, all_at}
use Rattle.machine.specs.declared.Pair.{Pair}
use Rattle.machine.specs.Symbols.{is_pair}
use Rattle.machine.specs.Machine.{Machine}
use Rattle.candidate.specs.Candidates.{marks_of, is_some, count_of, is_complete, profile_of}
use Rattle.product.specs.Nodes.{state_count_of, state_counts, product}
use Rattle.product.specs.Best.{Contender, ProfileOrder}
use Rattle.product.specs.Searches.{Searches}
use Rattle.join.specs.Merged.{merged_counts}
use Rattle.join.specs.JoinedMachine.{machine_at, joined_machine, joined_machines, both_marks}
use Rattle.join.specs.Laws.Machines.{sound_machine}
use Rattle.join.specs.Laws.Merged.{map_merged, all_merged, product_merged}
use Rattle.join.specs.Laws.Steps.{joined_marks}
use Rattle.joined.specs.Laws.Crossed.{joined_states}

-- the machines i and j of a card of S symbols, i < j, all of them sound
pub record Joins (S i j : ℕ) (ms : List Machine) : Type 0 where
  pub symbols : S < 64
  pub order : i < j
  pub within : j < length ms
  pub sound : all_of (sound_machine S) ms ≡ true

-- what joining them keeps
pub record JoinKeeps (i j : ℕ) (ms : List Machine) : Type 0 where
  pub complete : (c : List Pair) → all_of is_pair c ≡ true → is_complete (joined_machines i j ms) c ≡ is_complete ms c
  pub profile : (c : List Pair) → all_of is_pair c ≡ true → is_complete ms c ≡ true → profile_of (joined_machines i j ms) c ≡ merged_counts i j (profile_of ms c)
  pub states : product (state_counts (joined_machines i j ms)) ≡ product (state_counts ms)

module _ {S i j : ℕ} {ms : List Machine} (k : Joins S i j ms) where
  first_sound : sound_machine S (machine_at ms i) ≡ true
  first_sound = all_at (sound_machine S) ms _ k.sound i (omega (arith, k.order, k.within))

  second_sound : sound_machine S (machine_at ms j) ≡ true
  second_sound = all_at (sound_machine S) ms _ k.sound j k.within

  its_marks : (c : List Pair) → all_of is_pair c ≡ true → marks_of c (joined_machine (machine_at ms i) (machine_at ms j)) ≡ both_marks (marks_of c (machine_at ms i)) (marks_of c (machine_at ms j))
  its_marks = joined_marks S k.symbols (machine_at ms i) (machine_at ms j) first_sound second_sound

  some_both : (x y : Option ℕ) → is_some (both_marks x y) ≡ (is_some x && is_some y)
  some_both none y = refl
  some_both (some m) none = refl
  some_both (some m) (some n) = refl

  count_both : (x y : Option ℕ) → is_some x ≡ true → is_some y ≡ true → count_of (both_marks x y) ≡ count_of x + count_of y
  count_both none y p q = absurd (clash p refl)
  count_both (some m) none p q = absurd (clash q refl)
  count_both (some m) (some n) p q = refl

  keeps_complete : (c : List Pair) → all_of is_pair c ≡ true → is_complete (joined_machines i j ms) c ≡ is_complete ms c
  unfolding is_complete
  keeps_complete c is =
      all_merged (λ m. is_some (marks_of c m)) joined_machine ms i j _ k.order k.within
      (ap is_some (its_marks c is) ∙ some_both (marks_of c (machine_at ms i)) (marks_of c (machine_at ms j)))

  keeps_profile : (c : List Pair) → all_of is_pair c ≡ true → is_complete ms c ≡ true → profile_of (joined_machines i j ms) c ≡ merged_counts i j (profile_of ms c)
  unfolding is_complete profile_of
  keeps_profile c is t =
      map_merged (λ m. count_of (marks_of c m)) joined_machine (λ m n. m + n) ms i j _ k.order k.within
      (ap count_of (its_marks c is)
      ∙ count_both (marks_of c (machine_at ms i)) (marks_of c (machine_at ms j))
      (all_at (λ m. is_some (marks_of c m)) ms _ t i (omega (arith, k.order, k.within)))
      (all_at (λ m. is_some (marks_of c m)) ms _ t j k.within))

  -- so of all that can be asked for the same lists are meant
  pub keeps_meant : {Meant : List Machine → List Pair → Type 0} {best : ProfileOrder → List ℕ → Option Contender} → Searches Meant best → (c : List Pair) → Meant (joined_machines i j ms) c ↔ Meant ms c
  keeps_meant asked c = (
    λ h. let k = (asked.candidate h).1 in asked.complete_too h (sym (keeps_complete c k.pairs) ∙ k.complete),
    λ h. let k = (asked.candidate h).1 in asked.complete_too h (keeps_complete c k.pairs ∙ k.complete),
  )

  pub join_keeps : JoinKeeps i j ms
  join_keeps = record {
    complete = keeps_complete;
    profile = keeps_profile;
    states =
        ap product (map_merged state_count_of joined_machine (λ m n. m * n) ms i j _ k.order k.within (joined_states (machine_at ms i) (machine_at ms j)))
        ∙ product_merged (state_counts ms) i j k.order (omega (arith, k.within, length-map ms state_count_of));
  }
