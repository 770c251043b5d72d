-- Laws of lists from a place on, of tests over them, and of stores in a row. Assumes nothing.
use Rattle.std.specs.Prelude.{◌≡◌, ◌∷◌, ◌++◌, ◌+◌, ◌<◌, ◌≤◌}
use Rattle.basics.proofs.Words.{refl, ap, sym, ◌∙◌, Bool, true, false, List, [], ℕ, zero, suc, min, arith, length, get_or, take, drop, set, leb, drop-cons, take_all, sets, sets-eq, ext_get_or, add-zero, add-suc, suc-add, zero-add, add-one, all_of, leb-true, leb-false, left, right, zero-le, clash, all_at, each_at}
use Rattle.std.specs.Bool.{MatchBool}
use Rattle.std.specs.List.{AllWithin, HoldsAt}
use Rattle.writing.specs.Buffers.{Below}

-- the element at a place, and the rest
pub rest_cons : {A : Type 0} (l : List A) (at : ℕ) (d : A) → at < length l → drop at l ≡ get_or l at d ∷ drop (at + 1) l
rest_cons l at d h = rw add-one (drop-cons l at d h)

-- a test of every element of a list that is an element and the rest
module _ {A : Type 0} (f : A → Bool) {xs : List A} {x : A} {rest : List A} (e : xs ≡ x ∷ rest) where
  pub all_next : {t : Bool} → f x ≡ true → all_of f xs ≡ t → all_of f rest ≡ t
  unfolding all_of
  all_next h i = rw (e, h) at i

  pub all_fails : {t : Bool} → f x ≡ false → all_of f xs ≡ t → false ≡ t
  unfolding all_of
  all_fails h i = rw (e, h) at i

  pub all_first : all_of f xs ≡ true → f x ≡ true
  unfolding all_of
  all_first i = left (f x) (all_of f rest) (rw e at i)

  pub all_rest : all_of f xs ≡ true → all_of f rest ≡ true
  unfolding all_of
  all_rest i = right (f x) (all_of f rest) (rw e at i)

pub all_end : {A : Type 0} (f : A → Bool) {xs : List A} {t : Bool} → xs ≡ [] → all_of f xs ≡ t → true ≡ t
unfolding all_of
all_end f e i = rw e at i

-- what a chain of tests answers: each element passes, or one fails
pub all_cases : {A : Type 0} (f : A → Bool) (l : List A) (d : A) (t : Bool)
    → MatchBool t (AllWithin (λ x. f x ≡ true) l 0 (length l)) ((k : ℕ) × (k < length l) × HoldsAt (λ x. f x ≡ false) l k) → t ≡ all_of f l
all_cases f l d true h = sym (each_at f l d (λ i b. h i d zero-le b))
all_cases f l d false (k, b, h) = go (all_of f l) refl
  where
    go : (t : Bool) → all_of f l ≡ t → false ≡ all_of f l
    go true e = absurd (clash (all_at f l d e k b) (h d))
    go false e = sym e

-- the front of a list, no more than there is
pub take_least : {A : Type 0} (n m : ℕ) (l : List A) → length l ≡ m → take (min n m) l ≡ take n l
take_least {A} n m l e = go (leb n m) refl
  where
    go : (t : Bool) → leb n m ≡ t → take (min n m) l ≡ take n l
    go true h = let le : min n m ≡ n = omega (arith, leb-true n m h) in ap (λ (k : ℕ). take k l) le
    go false h = let lt = leb-false n m h in take_all (min n m) l (omega arith) ∙ sym (take_all n l (omega arith))

module _ {A : Type 0} where
  -- stores in a row
  pub sets_append : (l : List A) (i : ℕ) (xs ys : List A) → sets (sets l i xs) (i + length xs) ys ≡ sets l i (xs ++ ys)
  sets_append l i [] ys = ap (λ (k : ℕ). sets l k ys) (add-zero i)
  sets_append l i (x ∷ xs) ys =
      ap (λ (k : ℕ). sets (sets (set l i x) (suc i) xs) k ys) (add-suc i (length xs) ∙ sym (suc-add i (length xs)))
      ∙ sets_append (set l i x) (suc i) xs ys

  -- a list is stored element by element: the next one, and the end
  module _ (l : List A) (next : ℕ) {xs v : List A} where
    pub sets_next : {x : A} {rest : List A} → xs ≡ x ∷ rest → sets l next xs ≡ v → sets (set l next x) (next + 1) rest ≡ v
    sets_next e i = rw (add-one next) (rw e at i)

    pub sets_end : xs ≡ [] → sets l next xs ≡ v → l ≡ v
    sets_end e i = rw e at i

  -- stores from the front on
  pub sets_front : (xs l : List A) → length xs ≤ length l → sets l 0 xs ≡ xs ++ drop (length xs) l
  sets_front xs l h = sets-eq xs l 0 (rw zero-add h) ∙ ap (λ (k : ℕ). xs ++ drop k l) (zero-add (length xs))

-- six numbers are a list of six by its places, and each is below a bound
pub six_numbers : (l : List ℕ) {a b c d e f : ℕ} → length l ≡ 6 → a ≡ get_or l 0 0 → b ≡ get_or l 1 0 → c ≡ get_or l 2 0 → d ≡ get_or l 3 0 → e ≡ get_or l 4 0 → f ≡ get_or l 5 0
    → (a ∷ b ∷ c ∷ d ∷ e ∷ f ∷ []) ≡ l
six_numbers l {a} {b} {c} {d} {e} {f} six p q r s t u = ext_get_or 0 (a ∷ b ∷ c ∷ d ∷ e ∷ f ∷ []) l (sym six) at_place
  where
    at_place : (i : ℕ) → i < 6 → get_or (a ∷ b ∷ c ∷ d ∷ e ∷ f ∷ []) i 0 ≡ get_or l i 0
    at_place zero h = p
    at_place (suc zero) h = q
    at_place (suc (suc zero)) h = r
    at_place (suc (suc (suc zero))) h = s
    at_place (suc (suc (suc (suc zero)))) h = t
    at_place (suc (suc (suc (suc (suc zero))))) h = u
    at_place (suc (suc (suc (suc (suc (suc i)))))) h = absurd (omega arith)

pub six_below : (bound : ℕ) {a b c d e f : ℕ} → a < bound → b < bound → c < bound → d < bound → e < bound → f < bound → Below bound (a ∷ b ∷ c ∷ d ∷ e ∷ f ∷ [])
six_below bound p q r s t u zero = p
six_below bound p q r s t u (suc zero) = q
six_below bound p q r s t u (suc (suc zero)) = r
six_below bound p q r s t u (suc (suc (suc zero))) = s
six_below bound p q r s t u (suc (suc (suc (suc zero)))) = t
six_below bound p q r s t u (suc (suc (suc (suc (suc zero))))) = u
six_below bound p q r s t u (suc (suc (suc (suc (suc (suc i)))))) = omega arith

pub take_below : {bound : ℕ} (n : ℕ) (l : List ℕ) → 0 < bound → Below bound l → Below bound (take n l)
take_below zero l p h i = p
take_below (suc n) [] p h i = p
take_below (suc n) (x ∷ l) p h zero = h 0
take_below (suc n) (x ∷ l) p h (suc i) = take_below n l p (λ j. h (suc j)) i
