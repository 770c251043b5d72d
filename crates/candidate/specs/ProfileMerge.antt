-- A candidate's profile is the merge of its pairs' marks: what its pairs cost in the violation semiring, one after another, and its ending, is
-- the profile of a complete candidate, and infinite of any other. Assumes nothing.
use Rattle.std.specs.Prelude.{◌≡◌, ◌&&◌, ◌∷◌}
use Rattle.basics.proofs.Words.{refl, sym, ◌∙◌, ap, subst, true, false, List, [], map, Option, some, none, ℕ, suc, length, all_of, clash}
use Rattle.machine.specs.declared.Pair.{Pair}
use Rattle.machine.specs.Machine.{Machine, start_state, step_of, ending_of}
use Rattle.ranking.specs.Profiles.{merge}
use Rattle.ranking.specs.Violations.{Violations, finite, infinite, OfCounts, merge_costs}
use Rattle.candidate.specs.Candidates.{add_marks, marks_from, marks_of, is_some, count_of, is_complete, profile_of}

-- a machine and the state that it is in
pub record InState : Type 0 where
  pub machine : Machine
  pub state : ℕ

abbrev pub in_front : Option ℕ → Violations → Violations
in_front none rest = infinite
in_front (some n) infinite = infinite
in_front (some n) (finite v) = finite (n ∷ v)

-- one count from each, in order; infinite where one of them gives none
unfoldable pub cost_of_each : {A : Type 0} → (A → Option ℕ) → List A → Violations
cost_of_each f [] = finite []
cost_of_each f (x ∷ xs) = in_front (f x) (cost_of_each f xs)

abbrev pub step_marks : Option (ℕ × ℕ) → Option ℕ
step_marks none = none
step_marks (some r) = some r.1

abbrev pub state_after : Option (ℕ × ℕ) → ℕ → ℕ
state_after none s = s
state_after (some r) s = r.0

-- a pair's marks: what each machine marks it with in its state; infinite where one of them does not take it
abbrev pub pair_cost : List InState → Pair → Violations
pair_cost at p = cost_of_each (λ a. step_marks (step_of a.machine a.state p)) at

-- the machine moved on by a pair; one that does not take it stays
abbrev pub moved : Pair → InState → InState
moved p a = record { machine = a.machine; state = state_after (step_of a.machine a.state p) a.state }

-- the pairs' marks merged, each pair's in the states that those before it lead to; the ending's at last
unfoldable pub cost_of_pairs : List InState → List Pair → Violations
cost_of_pairs at [] = cost_of_each (λ a. ending_of a.machine a.state) at
cost_of_pairs at (p ∷ ps) = merge_costs (pair_cost at p) (cost_of_pairs (map (moved p) at) ps)

abbrev pub at_start : List Machine → List InState
at_start ms = map (λ m. record { machine = m; state = start_state }) ms

-- two counts, where both are given, added
abbrev plus : Option ℕ → Option ℕ → Option ℕ
plus none o = none
plus (some n) o = add_marks n o

module _ {A : Type 0} where
  merge_each : (f g : A → Option ℕ) (xs : List A) → merge_costs (cost_of_each f xs) (cost_of_each g xs) ≡ cost_of_each (λ x. plus (f x) (g x)) xs
  unfolding cost_of_each merge
  merge_each f g [] = refl
  merge_each f g (x ∷ xs) = in_front_lem (f x) (g x) (cost_of_each f xs) (cost_of_each g xs) ∙ ap (in_front (plus (f x) (g x))) (merge_each f g xs)
    where
      in_front_lem : (a b : Option ℕ) (v w : Violations) → merge_costs (in_front a v) (in_front b w) ≡ in_front (plus a b) (merge_costs v w)
      in_front_lem none b v w = refl
      in_front_lem (some n) none infinite w = refl
      in_front_lem (some n) none (finite v) w = refl
      in_front_lem (some n) (some k) infinite w = refl
      in_front_lem (some n) (some k) (finite v) infinite = refl
      in_front_lem (some n) (some k) (finite v) (finite w) = refl

  each_same : (f g : A → Option ℕ) → ((x : A) → f x ≡ g x) → (xs : List A) → cost_of_each f xs ≡ cost_of_each g xs
  each_same f g h xs = let q : f ≡ g = λ i x. h x i in ap (λ (k : A → Option ℕ). cost_of_each k xs) q

  -- each gives a count, or one gives none
  all_give : (f : A → Option ℕ) (xs : List A) → all_of (λ x. is_some (f x)) xs ≡ true → cost_of_each f xs ≡ finite (map (λ x. count_of (f x)) xs)
  unfolding cost_of_each all_of
  all_give f [] t = refl
  all_give f (x ∷ xs) t = go (f x) (all_give f xs) t
    where
      go : (o : Option ℕ) → (all_of (λ x. is_some (f x)) xs ≡ true → cost_of_each f xs ≡ finite (map (λ x. count_of (f x)) xs)) → (is_some o && all_of (λ x. is_some (f x)) xs) ≡ true
          → in_front o (cost_of_each f xs) ≡ finite (count_of o ∷ map (λ x. count_of (f x)) xs)
      go none k t = absurd (clash t refl)
      go (some n) k t = ap (in_front (some n)) (k t)

  one_gives_none : (f : A → Option ℕ) (xs : List A) → all_of (λ x. is_some (f x)) xs ≡ false → cost_of_each f xs ≡ infinite
  unfolding cost_of_each all_of
  one_gives_none f [] t = absurd (clash refl t)
  one_gives_none f (x ∷ xs) t = go (f x) (one_gives_none f xs) t
    where
      go : (o : Option ℕ) → (all_of (λ x. is_some (f x)) xs ≡ false → cost_of_each f xs ≡ infinite) → (is_some o && all_of (λ x. is_some (f x)) xs) ≡ false → in_front o (cost_of_each f xs) ≡ infinite
      go none k t = refl
      go (some n) k t = ap (in_front (some n)) (k t)

  -- as many counts as there are that give them
  each_counted : (f : A → Option ℕ) (xs : List A) → OfCounts (length xs) (cost_of_each f xs)
  unfolding cost_of_each
  each_counted f [] = refl
  each_counted f (x ∷ xs) = go (f x) (cost_of_each f xs) (each_counted f xs)
    where
      go : (o : Option ℕ) (rest : Violations) → OfCounts (length xs) rest → OfCounts (suc (length xs)) (in_front o rest)
      go none rest h = tt
      go (some n) infinite h = tt
      go (some n) (finite v) h = ap suc h

map_each : {A B : Type 0} (f : B → Option ℕ) (h : A → B) (xs : List A) → cost_of_each f (map h xs) ≡ cost_of_each (λ x. f (h x)) xs
unfolding cost_of_each
map_each f h [] = refl
map_each f h (x ∷ xs) = ap (in_front (f (h x))) (map_each f h xs)

-- what the pairs cost from some states is what each machine counts from its own
cost_of_each_lem : (c : List Pair) (at : List InState) → cost_of_pairs at c ≡ cost_of_each (λ a. marks_from a.machine a.state c) at
unfolding cost_of_pairs marks_from
cost_of_each_lem [] at = refl
cost_of_each_lem (p ∷ ps) at =
    ap (merge_costs (pair_cost at p)) (cost_of_each_lem ps (map (moved p) at) ∙ map_each rest (moved p) at)
    ∙ merge_each (λ a. step_marks (step_of a.machine a.state p)) (λ a. rest (moved p a)) at
    ∙ each_same (λ a. plus (step_marks (step_of a.machine a.state p)) (rest (moved p a))) (λ a. marks_from a.machine a.state (p ∷ ps))
    (λ a. one_step a.machine a.state (step_of a.machine a.state p)) at
  where
    rest : InState → Option ℕ
    rest a = marks_from a.machine a.state ps

    one_step : (m : Machine) (s : ℕ) (o : Option (ℕ × ℕ))
        → plus (step_marks o) (marks_from m (state_after o s) ps) ≡ (elim o as (λ _. Option ℕ) [ none ↦ none | some r ↦ add_marks r.1 (marks_from m r.0 ps) ])
    one_step m s none = refl
    one_step m s (some r) = refl

module _ (ms : List Machine) (c : List Pair) where
  cost_of_candidate : cost_of_pairs (at_start ms) c ≡ cost_of_each (marks_of c) ms
  cost_of_candidate = cost_of_each_lem c (at_start ms) ∙ map_each (λ a. marks_from a.machine a.state c) (λ m. record { machine = m; state = start_state }) ms

  pub profile_is_merge : is_complete ms c ≡ true → cost_of_pairs (at_start ms) c ≡ finite (profile_of ms c)
  unfolding is_complete profile_of
  profile_is_merge t = cost_of_candidate ∙ all_give (marks_of c) ms t

  -- its cost is in the semiring of as many counts as there are machines
  pub cost_counted : OfCounts (length ms) (cost_of_pairs (at_start ms) c)
  cost_counted = subst (OfCounts (length ms)) (sym cost_of_candidate) (each_counted (marks_of c) ms)

  pub not_complete_infinite : is_complete ms c ≡ false → cost_of_pairs (at_start ms) c ≡ infinite
  unfolding is_complete
  not_complete_infinite t = cost_of_candidate ∙ one_gives_none (marks_of c) ms t
