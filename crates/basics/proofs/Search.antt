-- Laws of the searches over a list. Assumes nothing.
use mathlib.Core.Path.{◌≡◌, refl}
use mathlib.Core.Logic.{◌⊎◌, inl, inr}
use mathlib.Core.Bool.{Bool, true, false, ◌&&◌}
use mathlib.Core.List.Memᴰ
use mathlib.Core.List.{List, [], ◌∷◌, ◌++◌, map, Memᴰ}
use mathlib.Core.Option.{some, none}
use Prim.Native.Nat.{ℕ, zero, suc, ◌+◌, ◌<◌, ◌≤◌}
use native.Mathlib.Numerals.{add-one}
use native.Mathlib.Omega.{arith}
use lib.ListN.{length, get_or, drop, drop_of_length-le}
use lib.Seq.{drop-cons}
use Rattle.basics.specs.Search.{all_of, pairwise, those, first_that, joined}
use Rattle.basics.proofs.Bools.{both, left, right}

-- how a loop over a list goes on: what is left of the list, at its end, and at an element and the rest

pub left_at : {A : Type 0} (l : List A) (i : ℕ) (d : A) → i < length l → drop i l ≡ get_or l i d ∷ drop (i + 1) l
left_at l i d h = rw add-one (drop-cons l i d h)

pub left_next : (l : List ℕ) (i : ℕ) → i < length l → drop i l ≡ get_or l i 0 ∷ drop (i + 1) l
left_next l i h = left_at l i 0 h

pub left_none : {A : Type 0} (l : List A) (i : ℕ) → length l ≤ i → drop i l ≡ []
left_none l i h = drop_of_length-le l h

pub all_none : {A : Type 0} (f : A → Bool) {xs : List A} → xs ≡ [] → all_of f xs ≡ true
unfolding all_of
all_none f e = rw e

module _ {A : Type 0} (f : A → Bool) {xs : List A} {x : A} {rest : List A} (e : xs ≡ x ∷ rest) where
  pub all_next : f x ≡ true → all_of f rest ≡ all_of f xs
  unfolding all_of
  all_next t = rw (e, t)

  pub all_fails : f x ≡ false → all_of f xs ≡ false
  unfolding all_of
  all_fails t = rw (e, t)

  pub first_next : f x ≡ false → first_that f rest ≡ first_that f xs
  unfolding first_that
  first_next t = rw (e, t, first_that)

  pub first_found : f x ≡ true → first_that f xs ≡ some x
  unfolding first_that
  first_found t = rw (e, t, first_that)

module _ {A : Type 0} (f : A → A → Bool) {xs : List A} {x : A} {rest : List A} (e : xs ≡ x ∷ rest) where
  pub pairwise_next : all_of (f x) rest ≡ true → pairwise f rest ≡ pairwise f xs
  unfolding pairwise
  pairwise_next t = rw (e, t)

  pub pairwise_fails : all_of (f x) rest ≡ false → pairwise f xs ≡ false
  unfolding pairwise
  pairwise_fails t = rw (e, t)

-- every element passes: by place, and by membership

module _ {A : Type 0} (f : A → Bool) where
  pub all_at : (xs : List A) (d : A) → all_of f xs ≡ true → (i : ℕ) → i < length xs → f (get_or xs i d) ≡ true
  unfolding all_of
  all_at [] d t i h = absurd (omega arith)
  all_at (x ∷ xs) d t zero h = left (f x) (all_of f xs) t
  all_at (x ∷ xs) d t (suc i) h = all_at xs d (right (f x) (all_of f xs) t) i (omega arith)

  pub each_at : (xs : List A) (d : A) → ((i : ℕ) → i < length xs → f (get_or xs i d) ≡ true) → all_of f xs ≡ true
  unfolding all_of
  each_at [] d h = refl
  each_at (x ∷ xs) d h = both (h 0 (omega arith)) (each_at xs d (λ i q. h (suc i) (omega arith)))

  pub all_member : {x : A} {xs : List A} → all_of f xs ≡ true → Memᴰ x xs → f x ≡ true
  unfolding all_of
  all_member t (Memᴰ.head {x = y} {xs = ys} e) = rw e (left (f y) (all_of f ys) t)
  all_member t (Memᴰ.tail {x = y} {xs = ys} m) = all_member (right (f y) (all_of f ys) t) m

  pub each_member : (xs : List A) → ((x : A) → Memᴰ x xs → f x ≡ true) → all_of f xs ≡ true
  unfolding all_of
  each_member [] h = refl
  each_member (x ∷ xs) h = both (h x (Memᴰ.head refl)) (each_member xs (λ y m. h y (Memᴰ.tail m)))

  pub all_append : (xs ys : List A) → all_of f (xs ++ ys) ≡ (all_of f xs && all_of f ys)
  unfolding all_of
  all_append [] ys = refl
  all_append (x ∷ xs) ys = go (f x) (all_append xs ys)
    where
      go : (b : Bool) → all_of f (xs ++ ys) ≡ (all_of f xs && all_of f ys) → (b && all_of f (xs ++ ys)) ≡ (b && all_of f xs && all_of f ys)
      go true e = e
      go false e = refl

-- every two places in order pass
pub pairwise_at : {A : Type 0} (f : A → A → Bool) (xs : List A) (d : A) → pairwise f xs ≡ true
    → (i j : ℕ) → i < j → j < length xs → f (get_or xs i d) (get_or xs j d) ≡ true
unfolding pairwise
pairwise_at f [] d t i j h q = absurd (omega arith)
pairwise_at f (x ∷ xs) d t zero zero h q = absurd (omega arith)
pairwise_at f (x ∷ xs) d t zero (suc j) h q = all_at (f x) xs d (left (all_of (f x) xs) (pairwise f xs) t) j (omega arith)
pairwise_at f (x ∷ xs) d t (suc i) zero h q = absurd (omega arith)
pairwise_at f (x ∷ xs) d t (suc i) (suc j) h q = pairwise_at f xs d (right (all_of (f x) xs) (pairwise f xs) t) i j (omega arith) (omega arith)

module _ {A : Type 0} (f : A → Bool) where
  -- the first that passes: it passes, it is one of them, none before it passes; and where there is none, none passes
  pub first_passes : (xs : List A) {x : A} → first_that f xs ≡ some x → f x ≡ true
  unfolding first_that
  first_passes [] e = let z : ◌≡◌ {A = ℕ} 0 1 = cc in absurd (omega arith)
  first_passes (y ∷ xs) {x} e = go (f y) refl (first_passes xs)
    where
      go : (b : Bool) → f y ≡ b → (first_that f xs ≡ some x → f x ≡ true) → f x ≡ true
      go true t r = let q : some y ≡ some x = rw (t, first_that) at e in let p : y ≡ x = cc in rw p at t
      go false t r = r (rw (t, first_that) at e)

  pub first_member : (xs : List A) {x : A} → first_that f xs ≡ some x → Memᴰ x xs
  unfolding first_that
  first_member [] e = let z : ◌≡◌ {A = ℕ} 0 1 = cc in absurd (omega arith)
  first_member (y ∷ xs) {x} e = go (f y) refl (first_member xs)
    where
      go : (b : Bool) → f y ≡ b → (first_that f xs ≡ some x → Memᴰ x xs) → Memᴰ x (y ∷ xs)
      go true t r = let q : some y ≡ some x = rw (t, first_that) at e in let p : x ≡ y = cc in Memᴰ.head p
      go false t r = Memᴰ.tail (r (rw (t, first_that) at e))

  pub first_misses : {x : A} {xs : List A} → first_that f xs ≡ none → Memᴰ x xs → f x ≡ false
  unfolding first_that
  first_misses {x} e (Memᴰ.head {x = y} {xs = ys} p) = go (f y) refl
    where
      go : (b : Bool) → f y ≡ b → f x ≡ false
      go true t = let q : some y ≡ none = rw (t, first_that) at e in let z : ◌≡◌ {A = ℕ} 0 1 = cc in absurd (omega arith)
      go false t = rw p t
  first_misses {x} e (Memᴰ.tail {x = y} {xs = ys} m) = go (f y) refl (λ q. first_misses q m)
    where
      go : (b : Bool) → f y ≡ b → (first_that f ys ≡ none → f x ≡ false) → f x ≡ false
      go true t r = let q : some y ≡ none = rw (t, first_that) at e in let z : ◌≡◌ {A = ℕ} 0 1 = cc in absurd (omega arith)
      go false t r = r (rw (t, first_that) at e)

  -- the elements that pass
  pub those_here : (x : A) (xs : List A) → f x ≡ true → those f (x ∷ xs) ≡ x ∷ those f xs
  unfolding those
  those_here x xs t = rw (t, those)

  pub those_later : (x : A) (xs : List A) → f x ≡ false → those f (x ∷ xs) ≡ those f xs
  unfolding those
  those_later x xs t = rw (t, those)

  pub those_member : {x : A} (xs : List A) → Memᴰ x (those f xs) → Memᴰ x xs × (f x ≡ true)
  unfolding those
  those_member [] m = absurd (Memᴰ.not-nil m)
  those_member {x} (y ∷ xs) m = go (f y) refl (those_member xs)
    where
      here : f y ≡ true → (Memᴰ x (those f xs) → Memᴰ x xs × (f x ≡ true)) → (x ≡ y) ⊎ Memᴰ x (those f xs) → Memᴰ x (y ∷ xs) × (f x ≡ true)
      here t r (inl e) = (Memᴰ.head e, rw e t)
      here t r (inr k) = let q = r k in (Memᴰ.tail q.0, q.1)

      go : (b : Bool) → f y ≡ b → (Memᴰ x (those f xs) → Memᴰ x xs × (f x ≡ true)) → Memᴰ x (y ∷ xs) × (f x ≡ true)
      go true t r = here t r (Memᴰ.cases_cons (rw (t, those) at m))
      go false t r = let q = r (rw (t, those) at m) in (Memᴰ.tail q.0, q.1)

  pub member_those : {x : A} {xs : List A} → Memᴰ x xs → f x ≡ true → Memᴰ x (those f xs)
  unfolding those
  member_those {x} (Memᴰ.head {x = y} {xs = ys} e) t = let q : f y ≡ true = rw e at t in rw (q, those) (Memᴰ.head e)
  member_those {x} (Memᴰ.tail {x = y} {xs = ys} m) t = go (f y) refl (member_those m t)
    where
      go : (b : Bool) → f y ≡ b → Memᴰ x (those f ys) → Memᴰ x (those f (y ∷ ys))
      go true e r = rw (e, those) (Memᴰ.tail r)
      go false e r = rw (e, those) r

  -- what all pass, and every two with each other, those of them pass
  all_those : (g : A → Bool) (xs : List A) → all_of g xs ≡ true → all_of g (those f xs) ≡ true
  unfolding all_of those
  all_those g [] t = refl
  all_those g (x ∷ xs) t = go (f x) refl (all_those g xs (right (g x) (all_of g xs) t))
    where
      go : (b : Bool) → f x ≡ b → all_of g (those f xs) ≡ true → all_of g (those f (x ∷ xs)) ≡ true
      go true e k = rw (those_here x xs e) (both (left (g x) (all_of g xs) t) k)
      go false e k = rw (those_later x xs e) k

  pub pairwise_those : (g : A → A → Bool) (xs : List A) → pairwise g xs ≡ true → pairwise g (those f xs) ≡ true
  unfolding pairwise those
  pairwise_those g [] t = refl
  pairwise_those g (x ∷ xs) t = go (f x) refl (pairwise_those g xs (right (all_of (g x) xs) (pairwise g xs) t))
    where
      go : (b : Bool) → f x ≡ b → pairwise g (those f xs) ≡ true → pairwise g (those f (x ∷ xs)) ≡ true
      go true e k = rw (those_here x xs e) (both (all_those (g x) xs (left (all_of (g x) xs) (pairwise g xs) t)) k)
      go false e k = rw (those_later x xs e) k

-- lists joined
module _ {A B : Type 0} (f : A → List B) where
  pub joined_member : {y : B} (xs : List A) → Memᴰ y (joined f xs) → (x : A) × Memᴰ x xs × Memᴰ y (f x)
  unfolding joined
  joined_member [] m = absurd (Memᴰ.not-nil m)
  joined_member {y} (x ∷ xs) m = go (joined_member xs) (Memᴰ.append_cases (f x) m)
    where
      go : (Memᴰ y (joined f xs) → (z : A) × Memᴰ z xs × Memᴰ y (f z)) → Memᴰ y (f x) ⊎ Memᴰ y (joined f xs) → (z : A) × Memᴰ z (x ∷ xs) × Memᴰ y (f z)
      go r (inl k) = (x, Memᴰ.head refl, k)
      go r (inr k) = let q = r k in (q.0, Memᴰ.tail q.1, q.2)

  pub member_joined : {x : A} {y : B} {xs : List A} → Memᴰ x xs → Memᴰ y (f x) → Memᴰ y (joined f xs)
  unfolding joined
  member_joined {y = y} (Memᴰ.head {x = z} {xs = zs} e) m = Memᴰ.append_left (joined f zs) (rw e at m)
  member_joined (Memᴰ.tail {x = z} {xs = zs} k) m = Memᴰ.append_right (f z) (member_joined k m)

-- an element of a map
pub map_at : {A B : Type 0} (f : A → B) (xs : List A) (i : ℕ) → i < length xs → (d : B) (a : A) → get_or (map f xs) i d ≡ f (get_or xs i a)
map_at f [] i h d a = absurd (omega arith)
map_at f (x ∷ xs) zero h d a = refl
map_at f (x ∷ xs) (suc i) h d a = map_at f xs i (omega arith) d a

-- within a list the default does not matter
pub any_default : {A : Type 0} (xs : List A) (i : ℕ) (d e : A) → i < length xs → get_or xs i d ≡ get_or xs i e
any_default [] i d e h = absurd (omega arith)
any_default (x ∷ xs) zero d e h = refl
any_default (x ∷ xs) (suc i) d e h = any_default xs i d e (omega arith)
