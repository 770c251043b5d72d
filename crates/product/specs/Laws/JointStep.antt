-- Laws of the joint step: the joint marks of a list of pairs, pair by pair; what sound machines promise of it.
use Rattle.std.specs.Prelude.{◌≡◌, ◌∷◌, ◌<◌, ◌≤◌}
use Rattle.basics.specs.Words.{refl, true, List, [], map, Option, some, none, Option·none-ne-some, ℕ}
use Rattle.machine.specs.declared.Pair.{Pair}
use Rattle.machine.specs.Symbols.{within_symbols}
use Rattle.machine.specs.Machine.{Machine, start_state, step_of, ending_of}
use Rattle.ranking.specs.Profiles.{merge}
use Rattle.candidate.specs.Candidates.{add_marks, marks_from}
use Rattle.product.specs.Nodes.{state_count_of, state_counts}
use Rattle.product.specs.JointStep.{and_those, of_each, joint_step, joint_ending}
use Rattle.product.specs.Laws.Nodes.{Below, Positive}

-- a machine's marks for a list of pairs: its first step, and the rest
pub marks_next : (m : Machine) (s : ℕ) (p : Pair) (ps : List Pair) (r : ℕ × ℕ) → step_of m s p ≡ some r → marks_from m s (p ∷ ps) ≡ add_marks r.1 (marks_from m r.0 ps)
unfolding marks_from
marks_next m s p ps r e = rw (e, marks_from)

pub marks_stuck : (m : Machine) (s : ℕ) (p : Pair) (ps : List Pair) → step_of m s p ≡ none → marks_from m s (p ∷ ps) ≡ none
unfolding marks_from
marks_stuck m s p ps e = rw (e, marks_from)

-- the marks of each machine for a list of pairs, from its state; none if one of them does not take them all and end
abbrev pub joint_marks : List Machine → List ℕ → List Pair → Option (List ℕ)
joint_marks ms ss c = of_each (λ m s. marks_from m s c) ms ss

pub joint_marks_end : (ms : List Machine) (ss : List ℕ) → joint_marks ms ss [] ≡ joint_ending ms ss
unfolding marks_from
joint_marks_end ms ss = refl

abbrev pub add_to_each : List ℕ → Option (List ℕ) → Option (List ℕ)
add_to_each xs none = none
add_to_each xs (some ys) = some (merge xs ys)

abbrev pub onward : Option (List (ℕ × ℕ)) → (List (ℕ × ℕ) → Option (List ℕ)) → Option (List ℕ)
onward none f = none
onward (some steps) f = f steps

-- one pair more in front: the joint step, and then the rest from the states that it leads to
pub joint_marks_next : (ms : List Machine) (ss : List ℕ) (p : Pair) (ps : List Pair)
    → joint_marks ms ss (p ∷ ps) ≡ onward (joint_step ms ss p) (λ steps. add_to_each (map (λ r. r.1) steps) (joint_marks ms (map (λ r. r.0) steps) ps))
unfolding of_each merge
joint_marks_next [] ss p ps = refl
joint_marks_next (m ∷ ms) [] p ps = refl
joint_marks_next (m ∷ ms) (s ∷ ss) p ps = go (step_of m s p) refl (joint_step ms ss p) refl (joint_marks_next ms ss p ps)
  where
    rest : List (ℕ × ℕ) → Option (List ℕ)
    rest steps = add_to_each (map (λ r. r.1) steps) (joint_marks ms (map (λ r. r.0) steps) ps)

    none_right : (o : Option ℕ) → and_those o none ≡ none
    none_right none = refl
    none_right (some x) = refl

    sum : (r : ℕ × ℕ) (xs : List ℕ) (a : Option ℕ) (b : Option (List ℕ)) → and_those (add_marks r.1 a) (add_to_each xs b) ≡ add_to_each (r.1 ∷ xs) (and_those a b)
    sum r xs none b = refl
    sum r xs (some a) none = refl
    sum r xs (some a) (some b) = refl

    go : (o : Option (ℕ × ℕ)) → step_of m s p ≡ o → (j : Option (List (ℕ × ℕ))) → joint_step ms ss p ≡ j → joint_marks ms ss (p ∷ ps) ≡ onward (joint_step ms ss p) rest
        → and_those (marks_from m s (p ∷ ps)) (joint_marks ms ss (p ∷ ps)) ≡ onward (and_those o j) (λ steps. add_to_each (map (λ r. r.1) steps) (joint_marks (m ∷ ms) (map (λ r. r.0) steps) ps))
    go none e j k h = rw (marks_stuck m s p ps e)
    go (some r) e none k h = rw (h, k) (none_right (marks_from m s (p ∷ ps)))
    go (some r) e (some steps) k h = rw (h, k, marks_next m s p ps r e) (sum r (map (λ r. r.1) steps) (marks_from m r.0 ps) (joint_marks ms (map (λ r. r.0) steps) ps))

-- a machine on a card of S symbols: it has its start state; a step leads to a state of it, with at most 15 marks, on a pair of the
-- card's symbols; an ending has at most 15 marks
pub record Sound (S : ℕ) (m : Machine) : Type 0 where
  pub starts : start_state < state_count_of m
  pub leads : (s : ℕ) (p : Pair) (r : ℕ × ℕ) → step_of m s p ≡ some r → r.0 < state_count_of m
  pub marks : (s : ℕ) (p : Pair) (r : ℕ × ℕ) → step_of m s p ≡ some r → r.1 ≤ 15
  pub symbols : (s : ℕ) (p : Pair) (r : ℕ × ℕ) → step_of m s p ≡ some r → within_symbols S p ≡ true
  pub ends : (s n : ℕ) → ending_of m s ≡ some n → n ≤ 15

pub data AllSound (S : ℕ) : List Machine → Type 0 where
  all_none : AllSound S []
  all_next : {m : Machine} {ms : List Machine} → Sound S m → AllSound S ms → AllSound S (m ∷ ms)

module _ {S : ℕ} where
  pub counts_positive : {ms : List Machine} → AllSound S ms → Positive (state_counts ms)
  counts_positive all_none = tt
  counts_positive (all_next a h) = (a.starts, counts_positive h)

  pub starts_below : {ms : List Machine} → AllSound S ms → Below (state_counts ms) (map (λ m. start_state) ms)
  starts_below all_none = tt
  starts_below (all_next a h) = (a.starts, starts_below h)

-- a joint step is a step of each machine
pub record StepOfEach (m : Machine) (ms : List Machine) (s : ℕ) (ss : List ℕ) (p : Pair) (steps : List (ℕ × ℕ)) : Type 0 where
  pub first : ℕ × ℕ
  pub others : List (ℕ × ℕ)
  pub first_is : step_of m s p ≡ some first
  pub others_are : joint_step ms ss p ≡ some others
  pub both_are : steps ≡ first ∷ others

pub step_of_each : (m : Machine) (ms : List Machine) (s : ℕ) (ss : List ℕ) (p : Pair) (steps : List (ℕ × ℕ)) → joint_step (m ∷ ms) (s ∷ ss) p ≡ some steps → StepOfEach m ms s ss p steps
unfolding of_each
step_of_each m ms s ss p steps h = go (step_of m s p) refl (joint_step ms ss p) refl h
  where
    go : (o : Option (ℕ × ℕ)) → step_of m s p ≡ o → (j : Option (List (ℕ × ℕ))) → joint_step ms ss p ≡ j → and_those o j ≡ some steps → StepOfEach m ms s ss p steps
    go none e j k h = absurd (Option·none-ne-some steps h)
    go (some r) e none k h = absurd (Option·none-ne-some steps h)
    go (some r) e (some others) k h = record { first = r; others = others; first_is = e; others_are = k; both_are = cc }

pub no_states_left : (m : Machine) (ms : List Machine) (p : Pair) (steps : List (ℕ × ℕ)) → joint_step (m ∷ ms) [] p ≡ some steps → ⊥
unfolding of_each
no_states_left m ms p steps h = Option·none-ne-some steps h

-- it leads to states of the machines
pub joint_below : {S : ℕ} {ms : List Machine} → AllSound S ms → (ss : List ℕ) (p : Pair) (steps : List (ℕ × ℕ)) → joint_step ms ss p ≡ some steps → Below (state_counts ms) (map (λ r. r.0) steps)
unfolding of_each
joint_below all_none ss p steps e = let q : steps ≡ [] = cc in rw q tt
joint_below (all_next {m} {ms} a h) [] p steps e = absurd (no_states_left m ms p steps e)
joint_below (all_next {m} {ms} a h) (s ∷ ss) p steps e =
    let k = step_of_each m ms s ss p steps e in
    rw k.both_are (a.leads s p k.first k.first_is, joint_below h ss p k.others k.others_are)
