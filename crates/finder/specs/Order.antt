-- The order of the rankings listed, and what is first in it. Assumes nothing.
use Rattle.std.specs.Prelude.{◌≡◌, ◌∷◌, ◌++◌, ◌<◌}
use Rattle.basics.proofs.Words.{refl, sym, ◌∙◌, ap, Bool, true, false, not, false≢true, List, [], map, List-as-Memᴰ, List·Memᴰ·head, List·Memᴰ·tail, List·Memᴰ·not-nil, List·Memᴰ·cases-cons, List·Memᴰ·append-cases, List·Memᴰ·eq-of-singleton, some, ⊎_elim, ℕ, zero, suc, arith, eqb, ltb, all_of, pairwise, those, first_that, joined, numbers_below, both, left, right, clash, all_member, each_member, those_member, joined_member, numbers_member}
use borrow.Author.Tests.{ltb-true, ltb-false, lt-ltb, le-ltb, eq-eqb, ne_eqb}
use Rattle.ranking.specs.Rankings.{arrangements, rankings}
use Rattle.ranking.specs.ByteStrings.{smaller}
use Rattle.ranking.specs.Lemmas.Searches.{split, those_in, those_out, first_here, first_on, mem_map}
use Rattle.ranking.specs.Lemmas.Arrangements.{without, headed}

-- Lists in order

module _ {A : Type 0} (f : A → A → Bool) where
  append_pairwise : (xs ys : List A) → pairwise f xs ≡ true → pairwise f ys ≡ true
      → ((x y : A) → List-as-Memᴰ x xs → List-as-Memᴰ y ys → f x y ≡ true) → pairwise f (xs ++ ys) ≡ true
  unfolding pairwise
  append_pairwise [] ys p q h = q
  append_pairwise (x ∷ xs) ys p q h =
      both
      (each_member (f x) (xs ++ ys)
      (λ y m.
      ⊎_elim (λ (w : List-as-Memᴰ y xs). all_member (f x) (left (all_of (f x) xs) (pairwise f xs) p) w) (λ (w : List-as-Memᴰ y ys). h x y (List·Memᴰ·head refl) w)
      (List·Memᴰ·append-cases xs m)))
      (append_pairwise xs ys (right (all_of (f x) xs) (pairwise f xs) p) q (λ a b u v. h a b (List·Memᴰ·tail u) v))

  those_pairwise : (g : A → Bool) (xs : List A) → pairwise f xs ≡ true → pairwise f (those g xs) ≡ true
  unfolding pairwise those
  those_pairwise g [] p = refl
  those_pairwise g (x ∷ xs) p =
      let a = left (all_of (f x) xs) (pairwise f xs) p in
      let r = those_pairwise g xs (right (all_of (f x) xs) (pairwise f xs) p) in
      split (g x)
      (λ e. ap (pairwise f) (those_in g xs e) ∙ both (each_member (f x) (those g xs) (λ y m. all_member (f x) a (those_member g xs m).0)) r)
      (λ e. ap (pairwise f) (those_out g xs e) ∙ r)

  -- what is found first is before every other that passes
  pub first_before_others : (g : A → Bool) (xs : List A) {x y : A} → pairwise f xs ≡ true → first_that g xs ≡ some x → List-as-Memᴰ y xs → g y ≡ true
      → (y ≡ x → ⊥) → f x y ≡ true
  unfolding pairwise
  first_before_others g [] p t m h n = absurd (List·Memᴰ·not-nil m)
  first_before_others g (z ∷ xs) {x} {y} p t m h n =
      split (g z)
      (λ e.
      let q : some z ≡ some x = sym (first_here g xs e) ∙ t in
      let zx : z ≡ x = cc in
      ⊎_elim (λ (w : y ≡ z). absurd (n (w ∙ zx)))
      (λ (w : List-as-Memᴰ y xs). ap (λ (k : A). f k y) (sym zx) ∙ all_member (f z) (left (all_of (f z) xs) (pairwise f xs) p) w)
      (List·Memᴰ·cases-cons m))
      (λ e.
      ⊎_elim (λ (w : y ≡ z). absurd (clash h (ap g w ∙ e)))
      (λ (w : List-as-Memᴰ y xs). first_before_others g xs (right (all_of (f z) xs) (pairwise f xs) p) (sym (first_on g xs e) ∙ t) w h n)
      (List·Memᴰ·cases-cons m))

  -- what passes and is before every other that passes is found first
  pub before_others_first : ((x y : A) → f x y ≡ true → f y x ≡ true → ⊥) → (g : A → Bool) (xs : List A) {x : A} → pairwise f xs ≡ true
      → List-as-Memᴰ x xs → g x ≡ true → ((y : A) → List-as-Memᴰ y xs → g y ≡ true → (y ≡ x → ⊥) → f x y ≡ true) → first_that g xs ≡ some x
  unfolding pairwise
  before_others_first a g [] p m h l = absurd (List·Memᴰ·not-nil m)
  before_others_first a g (z ∷ xs) {x} p m h l =
      ⊎_elim (λ (w : x ≡ z). first_here g xs (sym (ap g w) ∙ h) ∙ ap some (sym w))
      (λ (w : List-as-Memᴰ x xs).
      let zx = all_member (f z) (left (all_of (f z) xs) (pairwise f xs) p) w in
      split (g z)
      (λ e. absurd (a z x zx (l z (List·Memᴰ·head refl) e (λ q. let zz = ap (f z) q ∙ zx in a z z zz zz))))
      (λ e. first_on g xs e ∙ before_others_first a g xs (right (all_of (f z) xs) (pairwise f xs) p) w h (λ y v. l y (List·Memᴰ·tail v))))
      (List·Memᴰ·cases-cons m)

module _ {A B : Type 0} (h : A → A → Bool) (f : B → B → Bool) where
  map_pairwise : (k : A → B) (xs : List A) → ((a b : A) → h a b ≡ true → f (k a) (k b) ≡ true) → pairwise h xs ≡ true → pairwise f (map k xs) ≡ true
  unfolding pairwise
  map_pairwise k [] g p = refl
  map_pairwise k (x ∷ xs) g p =
      both
      (each_member (f (k x)) (map k xs)
      (λ y m.
      let w = mem_map k xs m in
      ap (f (k x)) w.2 ∙ g x w.0 (all_member (h x) (left (all_of (h x) xs) (pairwise h xs) p) w.1)))
      (map_pairwise k xs g (right (all_of (h x) xs) (pairwise h xs) p))

  joined_pairwise : (g : A → List B) (xs : List A) → pairwise h xs ≡ true → ((x : A) → List-as-Memᴰ x xs → pairwise f (g x) ≡ true)
      → ((x z : A) (y w : B) → h x z ≡ true → List-as-Memᴰ y (g x) → List-as-Memᴰ w (g z) → f y w ≡ true) → pairwise f (joined g xs) ≡ true
  unfolding pairwise joined
  joined_pairwise g [] p i o = refl
  joined_pairwise g (x ∷ xs) p i o =
      append_pairwise f (g x) (joined g xs) (i x (List·Memᴰ·head refl))
      (joined_pairwise g xs (right (all_of (h x) xs) (pairwise h xs) p) (λ z m. i z (List·Memᴰ·tail m)) o)
      (λ y w m n.
      let j = joined_member g xs n in
      o x j.0 y w (all_member (h x) (left (all_of (h x) xs) (pairwise h xs) p) j.1) m j.2)

-- Byte strings

module _ {x y : ℕ} (s t : List ℕ) where
  smaller_lower : x < y → smaller (x ∷ s) (y ∷ t) ≡ true
  unfolding smaller
  smaller_lower h = rw (lt-ltb x y h)

  smaller_higher : y < x → smaller (x ∷ s) (y ∷ t) ≡ false
  unfolding smaller
  smaller_higher h = rw (le-ltb x y (omega arith), ne_eqb x y (omega arith))

  smaller_level : x ≡ y → smaller (x ∷ s) (y ∷ t) ≡ smaller s t
  unfolding smaller
  smaller_level h = rw (le-ltb x y (omega arith), eq-eqb x y h)

pub smaller_asymmetric : (s t : List ℕ) → smaller s t ≡ true → smaller t s ≡ true → ⊥
unfolding smaller
smaller_asymmetric [] t p q = false≢true p
smaller_asymmetric (x ∷ s) [] p q = false≢true p
smaller_asymmetric (x ∷ s) (y ∷ t) p q =
    split (ltb x y) (λ e. clash q (smaller_higher t s (ltb-true x y e)))
    (λ e.
    split (ltb y x) (λ d. clash p (smaller_higher s t (ltb-true y x d)))
    (λ d.
    let h : x ≡ y = omega (arith, ltb-false x y e, ltb-false y x d) in
    smaller_asymmetric s t (sym (smaller_level s t h) ∙ p) (sym (smaller_level t s (sym h)) ∙ q)))

-- The rankings

numbers_ordered : (K : ℕ) → pairwise ltb (numbers_below K) ≡ true
unfolding numbers_below pairwise all_of
numbers_ordered zero = refl
numbers_ordered (suc K) =
    append_pairwise ltb (numbers_below K) (K ∷ []) (numbers_ordered K) refl
    (λ x y m n.
    let e = List·Memᴰ·eq-of-singleton n in
    let h = numbers_member K m in
    lt-ltb x y (omega arith))

arrangements_ordered : (n : ℕ) (ms : List ℕ) → pairwise ltb ms ≡ true → pairwise smaller (arrangements n ms) ≡ true
unfolding arrangements pairwise all_of
arrangements_ordered zero ms p = refl
arrangements_ordered (suc n) ms p =
    joined_pairwise ltb smaller (headed n ms) ms p
    (λ m w.
    map_pairwise smaller smaller (λ r. m ∷ r) (arrangements n (without m ms)) (λ a b h. smaller_level a b refl ∙ h)
    (arrangements_ordered n (without m ms) (those_pairwise ltb (λ x. not (eqb x m)) ms p)))
    (λ x z y w h a b.
    let i = mem_map (λ r. x ∷ r) (arrangements n (without x ms)) a in
    let j = mem_map (λ r. z ∷ r) (arrangements n (without z ms)) b in
    ap (λ (l : List ℕ). smaller l w) i.2 ∙ ap (smaller (x ∷ i.0)) j.2 ∙ smaller_lower i.0 j.0 (ltb-true x z h))

pub rankings_ordered : (K : ℕ) → pairwise smaller (rankings K) ≡ true
rankings_ordered K = arrangements_ordered K (numbers_below K) (numbers_ordered K)
