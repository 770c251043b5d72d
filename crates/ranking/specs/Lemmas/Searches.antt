-- Laws of the searches over a list: in parts of it, along a function, one search in another. Assumes nothing.
use Rattle.std.specs.Prelude.{◌≡◌, ◌&&◌, ◌||◌, ◌∷◌, ◌++◌, ◌+◌, ◌<◌}
use Rattle.basics.proofs.Words.{refl, sym, ◌∙◌, ap, ap₂, Bool, true, false, not, and-false, List, [], map, List-as-Memᴰ, List·Memᴰ·head, List·Memᴰ·tail, List·Memᴰ·not-nil, List·Memᴰ·cases-cons, some, none, Option·map, ⊎_elim, ℕ, zero, suc, arith, eqb, add-one, all_of, those, first_that, numbers_below, both, first_found, first_next, first_misses}
use Rattle.std.proofs.Common.{eqb-true}
use Rattle.std.proofs.lemmas.Bool.{eqb-false}

-- the two cases of a test
pub split : {C : Type 0} (b : Bool) → (b ≡ true → C) → (b ≡ false → C) → C
split true p q = p refl
split false p q = q refl

-- a number is equal to another, or not
pub equal_or_not : {C : Type 0} (x y : ℕ) → (x ≡ y → C) → ((x ≡ y → ⊥) → C) → C
equal_or_not x y p q = split (eqb x y) (λ e. p (eqb-true x y e)) (λ e. q (eqb-false x y e))

module _ {A : Type 0} (f : A → Bool) where
  module _ {x : A} (xs : List A) where
    pub those_in : f x ≡ true → those f (x ∷ xs) ≡ x ∷ those f xs
    unfolding those
    those_in e = rw (e, those)

    pub those_out : f x ≡ false → those f (x ∷ xs) ≡ those f xs
    unfolding those
    those_out e = rw (e, those)

    pub first_here : f x ≡ true → first_that f (x ∷ xs) ≡ some x
    first_here e = first_found f refl e

    pub first_on : f x ≡ false → first_that f (x ∷ xs) ≡ first_that f xs
    first_on e = sym (first_next f refl e)

  pub none_first : (xs : List A) → ((x : A) → List-as-Memᴰ x xs → f x ≡ false) → first_that f xs ≡ none
  unfolding first_that
  none_first [] h = refl
  none_first (y ∷ ys) h = first_on ys (h y (List·Memᴰ·head refl)) ∙ none_first ys (λ x m. h x (List·Memᴰ·tail m))

  pub first_append : (xs ys : List A) → first_that f xs ≡ none → first_that f (xs ++ ys) ≡ first_that f ys
  unfolding first_that
  first_append [] ys t = refl
  first_append (x ∷ xs) ys t = let e = first_misses f {xs = x ∷ xs} t (List·Memᴰ·head refl) in first_on (xs ++ ys) e ∙ first_append xs ys (sym (first_on xs e) ∙ t)

  pub first_before_lem : (xs ys : List A) {x : A} → first_that f xs ≡ some x → first_that f (xs ++ ys) ≡ some x
  unfolding first_that
  first_before_lem [] ys {x} t = let z : ◌≡◌ {A = ℕ} 0 1 = cc in absurd (omega arith)
  first_before_lem (y ∷ xs) ys t =
      split (f y) (λ e. first_here (xs ++ ys) e ∙ sym (first_here xs e) ∙ t) (λ e. first_on (xs ++ ys) e ∙ first_before_lem xs ys (sym (first_on xs e) ∙ t))

module _ {A : Type 0} {f g : A → Bool} where
  pub first_same : (xs : List A) → ((x : A) → List-as-Memᴰ x xs → f x ≡ g x) → first_that f xs ≡ first_that g xs
  unfolding first_that
  first_same [] h = refl
  first_same (y ∷ ys) h =
      let e = h y (List·Memᴰ·head refl) in
      let r = first_same ys (λ x m. h x (List·Memᴰ·tail m)) in
      split (f y) (λ t. first_here f ys t ∙ sym (first_here g ys (sym e ∙ t))) (λ t. first_on f ys t ∙ r ∙ sym (first_on g ys (sym e ∙ t)))

  pub all_same : (xs : List A) → ((x : A) → List-as-Memᴰ x xs → f x ≡ g x) → all_of f xs ≡ all_of g xs
  unfolding all_of
  all_same [] h = refl
  all_same (y ∷ ys) h = ap₂ ◌&&◌ (h y (List·Memᴰ·head refl)) (all_same ys (λ x m. h x (List·Memᴰ·tail m)))

  pub those_same : (xs : List A) → ((x : A) → f x ≡ g x) → those f xs ≡ those g xs
  those_same xs h = let e : f ≡ g = λ i x. h x i in ap (λ (k : A → Bool). those k xs) e

module _ {A : Type 0} (f g : A → Bool) where
  pub those_those : (xs : List A) → those f (those g xs) ≡ those (λ x. g x && f x) xs
  unfolding those
  those_those [] = refl
  those_those (x ∷ xs) =
      split (g x)
      (λ e.
      split (f x)
      (λ d. ap (those f) (those_in g xs e) ∙ those_in f (those g xs) d ∙ ap (λ l. x ∷ l) (those_those xs) ∙ sym (those_in h xs (both e d)))
      (λ d. ap (those f) (those_in g xs e) ∙ those_out f (those g xs) d ∙ those_those xs ∙ sym (those_out h xs (rw (e, d)))))
      (λ e. ap (those f) (those_out g xs e) ∙ those_those xs ∙ sym (those_out h xs (rw e)))
    where
      h : A → Bool
      h x = g x && f x

  pub first_those : (xs : List A) → first_that f (those g xs) ≡ first_that (λ x. g x && f x) xs
  unfolding those first_that
  first_those [] = refl
  first_those (x ∷ xs) =
      split (g x)
      (λ e.
      split (f x)
      (λ d. ap (first_that f) (those_in g xs e) ∙ first_here f (those g xs) d ∙ sym (first_here h xs (both e d)))
      (λ d. ap (first_that f) (those_in g xs e) ∙ first_on f (those g xs) d ∙ first_those xs ∙ sym (first_on h xs (rw (e, d)))))
      (λ e. ap (first_that f) (those_out g xs e) ∙ first_those xs ∙ sym (first_on h xs (rw e)))
    where
      h : A → Bool
      h x = g x && f x

  pub all_those : (xs : List A) → all_of f (those g xs) ≡ all_of (λ x. not (g x) || f x) xs
  unfolding those all_of
  all_those [] = refl
  all_those (x ∷ xs) =
      split (g x)
      (λ e. ap (all_of f) (those_in g xs e) ∙ rw (e, all_those xs))
      (λ e. ap (all_of f) (those_out g xs e) ∙ rw (e, all_those xs))

  pub all_and : {h : A → Bool} (xs : List A) → ((x : A) → List-as-Memᴰ x xs → h x ≡ (f x && g x)) → all_of h xs ≡ (all_of f xs && all_of g xs)
  unfolding all_of
  all_and [] e = refl
  all_and {h} (x ∷ xs) e = ap (λ (b : Bool). b && all_of h xs) (e x (List·Memᴰ·head refl)) ∙ rw (all_and xs (λ y m. e y (List·Memᴰ·tail m))) (swapped (f x) (g x) (all_of f xs) (all_of g xs))
    where
      swapped : (a b p q : Bool) → (a && b && (p && q)) ≡ (a && p && (b && q))
      swapped true true p q = refl
      swapped true false p q = sym (and-false p)
      swapped false b p q = refl

module _ {A B : Type 0} where
  pub first_map : (f : B → Bool) (h : A → B) (xs : List A) → first_that f (map h xs) ≡ Option·map h (first_that (λ x. f (h x)) xs)
  unfolding first_that
  first_map f h [] = refl
  first_map f h (x ∷ xs) =
      split (f (h x))
      (λ e. first_here f (map h xs) e ∙ sym (ap (Option·map h) (first_here (λ x. f (h x)) xs e)))
      (λ e. first_on f (map h xs) e ∙ first_map f h xs ∙ sym (ap (Option·map h) (first_on (λ x. f (h x)) xs e)))

  pub mem_map : (h : A → B) (xs : List A) {y : B} → List-as-Memᴰ y (map h xs) → (x : A) × List-as-Memᴰ x xs × (y ≡ h x)
  mem_map h [] m = absurd (List·Memᴰ·not-nil m)
  mem_map h (x ∷ xs) {y} m =
      ⊎_elim (λ (e : y ≡ h x). (x, List·Memᴰ·head refl, e)) (λ (w : List-as-Memᴰ y (map h xs)). let r = mem_map h xs w in (r.0, List·Memᴰ·tail r.1, r.2))
      (List·Memᴰ·cases-cons m)

  pub map_mem : (h : A → B) {x : A} {xs : List A} → List-as-Memᴰ x xs → List-as-Memᴰ (h x) (map h xs)
  map_mem h (List·Memᴰ·head e) = List·Memᴰ·head (ap h e)
  map_mem h (List·Memᴰ·tail m) = List·Memᴰ·tail (map_mem h m)

-- a search that counts up
module _ (f : ℕ → Bool) where
  pub count_on : (n : ℕ) → first_that f (numbers_below n) ≡ none → f n ≡ false → first_that f (numbers_below (n + 1)) ≡ none
  unfolding numbers_below first_that
  count_on n h t = rw add-one (first_append f (numbers_below n) (n ∷ []) h ∙ first_on f [] t)

  pub count_found : (K n : ℕ) → n < K → first_that f (numbers_below n) ≡ none → f n ≡ true → first_that f (numbers_below K) ≡ some n
  unfolding numbers_below
  count_found zero n l h t = absurd (omega arith)
  count_found (suc K) n l h t =
      equal_or_not n K
      (λ e.
      first_append f (numbers_below K) (K ∷ []) (ap (λ (i : ℕ). first_that f (numbers_below i)) (sym e) ∙ h)
      ∙ first_here f [] (ap f (sym e) ∙ t)
      ∙ ap some (sym e))
      (λ e. first_before_lem f (numbers_below K) (K ∷ []) (count_found K n (omega arith) h t))
