-- How a machine goes on through a candidate. Assumes nothing.
use Rattle.std.specs.Prelude.{◌≡◌, ◌∷◌, ◌+◌}
use Rattle.basics.specs.Words.{refl, sym, ap, List, [], Option, some, none, ℕ, add_assoc, zero-add}
use Rattle.machine.specs.declared.Pair.{Pair}
use Rattle.machine.specs.Machine.{Machine, step_of, ending_of}
use Rattle.candidate.specs.Candidates.{add_marks, marks_from}

pub add_zero_marks : (o : Option ℕ) → add_marks 0 o ≡ o
add_zero_marks none = refl
add_zero_marks (some n) = ap {B = Option ℕ} some (zero-add n)

add_twice : (a b : ℕ) (o : Option ℕ) → add_marks a (add_marks b o) ≡ add_marks (a + b) o
add_twice a b none = refl
add_twice a b (some n) = ap {B = Option ℕ} some (sym (add_assoc a b n))

-- what a step leads to
abbrev onward : Option (ℕ × ℕ) → (ℕ → Option ℕ) → Option ℕ
onward none rest = none
onward (some r) rest = add_marks r.1 (rest r.0)

marks_cons : (m : Machine) (s : ℕ) (p : Pair) (rest : List Pair) → marks_from m s (p ∷ rest) ≡ onward (step_of m s p) (λ t. marks_from m t rest)
unfolding marks_from
marks_cons m s p rest = go (step_of m s p)
  where
    go : (o : Option (ℕ × ℕ)) → (elim o as (λ _. Option ℕ) [ none ↦ none | some r ↦ add_marks r.1 (marks_from m r.0 rest) ]) ≡ onward o (λ t. marks_from m t rest)
    go none = refl
    go (some r) = refl

module _ (m : Machine) (s sum : ℕ) {xs : List Pair} where
  -- with `sum` marks so far
  pub marks_next : {p : Pair} {rest : List Pair} → xs ≡ p ∷ rest → {t k : ℕ} → step_of m s p ≡ some (t, k) → add_marks (sum + k) (marks_from m t rest) ≡ add_marks sum (marks_from m s xs)
  marks_next {p} {rest} e {t} {k} h = rw (e, marks_cons, h) (sym (add_twice sum k (marks_from m t rest)))

  pub marks_stuck : {p : Pair} {rest : List Pair} → xs ≡ p ∷ rest → step_of m s p ≡ none → add_marks sum (marks_from m s xs) ≡ none
  marks_stuck e h = rw (e, marks_cons, h)

  pub marks_end : xs ≡ [] → add_marks sum (marks_from m s xs) ≡ add_marks sum (ending_of m s)
  unfolding marks_from
  marks_end e = rw e
