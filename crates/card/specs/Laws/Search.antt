-- Laws of refusals and of lists with one element more. Assumes nothing.
use Rattle.std.specs.Prelude.{◌≡◌, ◌∷◌, ◌++◌}
use Rattle.basics.specs.Words.{refl, ap, sym, ◌∙◌, List, [], map, append-nil, append_assoc, ℕ, zero, suc, arith, joined}
use Rattle.refusals.specs.Refusals.{first_of}

-- nothing is refused where each in turn refuses nothing
pub first_passed : (n : ℕ) (ns : List ℕ) → first_of (n ∷ ns) ≡ 0 → n ≡ 0
first_passed zero ns e = refl
first_passed (suc n) ns e = e

pub rest_passed : (n : ℕ) (ns : List ℕ) → first_of (n ∷ ns) ≡ 0 → first_of ns ≡ 0
rest_passed zero ns e = e
rest_passed (suc n) ns e = absurd (omega arith)

module _ {A B : Type 0} where
  -- a map and a join of one element more
  pub map_snoc : (f : A → B) (xs : List A) (x : A) → map f (xs ++ (x ∷ [])) ≡ map f xs ++ (f x ∷ [])
  map_snoc f [] x = refl
  map_snoc f (y ∷ ys) x = ap (λ (l : List B). f y ∷ l) (map_snoc f ys x)

  pub joined_snoc : (f : A → List B) (xs : List A) (x : A) → joined f (xs ++ (x ∷ [])) ≡ joined f xs ++ f x
  unfolding joined
  joined_snoc f [] x = append-nil (f x)
  joined_snoc f (y ∷ ys) x = ap (λ (l : List B). f y ++ l) (joined_snoc f ys x) ∙ sym (append_assoc (f y) (joined f ys) (f x))
