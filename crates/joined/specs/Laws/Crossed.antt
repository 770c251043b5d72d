-- Laws of two lists crossed, and how many states the joined machine has. Assumes nothing.
use Rattle.std.specs.Prelude.{◌≡◌, ◌∷◌, ◌++◌, ◌+◌, ◌*◌, ◌<◌}
use Rattle.basics.proofs.Words.{sym, ap, ◌∙◌, List, [], map, ℕ, zero, suc, arith, length, get_or, length-map, length-append, List·getD-append, List·getD-map, get_or-append-add, suc-mul, joined, any_default}
use Rattle.machine.specs.Machine.{Machine, state_count_of}
use Rattle.joined.specs.JoinedMachine.{joined_state, both_marks, crossed, joined_machine}

module _ {A B C : Type 0} (f : A → B → C) where
  pub crossed_length : (xs : List A) (ys : List B) → length (crossed f xs ys) ≡ length xs * length ys
  unfolding joined
  crossed_length [] ys = omega arith
  crossed_length (x ∷ xs) ys =
      length-append (map (f x) ys) (crossed f xs ys) ∙ (omega (arith, crossed_length xs ys, length-map ys (f x), suc-mul (length xs) (length ys)))

  -- in the place that stands for a place of each; past the first list's end, where f makes the default of its default
  pub crossed_at : (d : A) (e : B) (z : C) → ((y : B) → f d y ≡ z) → (xs : List A) (ys : List B) (s t : ℕ) → t < length ys
      → get_or (crossed f xs ys) (joined_state (length ys) s t) z ≡ f (get_or xs s d) (get_or ys t e)
  unfolding joined
  crossed_at d e z k [] ys s t h = sym (k (get_or ys t e))
  crossed_at d e z k (x ∷ xs) ys zero t h =
      let n : t < length (map (f x) ys) = omega (arith, h, length-map ys (f x)) in
      let q : 0 * length ys + t ≡ t = omega arith in
      ap (λ m. get_or (map (f x) ys ++ crossed f xs ys) m z) q
      ∙ List·getD-append (map (f x) ys) (crossed f xs ys) z t n
      ∙ any_default (map (f x) ys) t z (f x e) n
      ∙ List·getD-map (f x) ys t e
  crossed_at d e z k (x ∷ xs) ys (suc s) t h =
      let q : suc s * length ys + t ≡ length (map (f x) ys) + (s * length ys + t) = omega (arith, suc-mul s (length ys), length-map ys (f x)) in
      ap (λ m. get_or (map (f x) ys ++ crossed f xs ys) m z) q
      ∙ get_or-append-add (map (f x) ys) (crossed f xs ys) (s * length ys + t) z
      ∙ crossed_at d e z k xs ys s t h

-- a state for a state of each
pub joined_states : (a b : Machine) → state_count_of (joined_machine a b) ≡ state_count_of a * state_count_of b
unfolding joined_machine
joined_states a b = crossed_length both_marks a.endings b.endings
