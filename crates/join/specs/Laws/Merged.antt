-- Laws of lists in which one place takes in another. Assumes nothing.
use Rattle.std.specs.Prelude.{◌≡◌, ◌&&◌, ◌∷◌, ◌++◌, ◌*◌, ◌<◌, ◌≤◌}
use Rattle.basics.proofs.Words.{refl, sym, ap, subst, ◌∙◌, Bool, true, false, and_assoc, and_comm, List, [], map, ℕ, zero, suc, arith, length, get_or, List·getD-map, List·getD-append, eqb, ltb, mul_assoc, mul_comm, all_of, without, product, any_default}
use Rattle.std.proofs.Common.{eqb-true, ltb-true, ltb-false}
use Rattle.std.proofs.lemmas.Bool.{eqb-false}
use Rattle.join.specs.Merged.{merged_at}

module _ {A : Type 0} where
  pub length_without : (xs : List A) (j : ℕ) → j < length xs → suc (length (without j xs)) ≡ length xs
  unfolding without
  length_without [] j h = absurd (omega arith)
  length_without (x ∷ xs) zero h = refl
  length_without (x ∷ xs) (suc j) h = ap suc (length_without xs j (omega arith))

  pub length_merged : (f : A → A → A) (xs : List A) (i j : ℕ) → i < j → j < length xs → suc (length (merged_at f i j xs)) ≡ length xs
  unfolding merged_at
  length_merged f [] i j h k = absurd (omega arith)
  length_merged f (x ∷ xs) i zero h k = absurd (omega arith)
  length_merged f (x ∷ xs) zero (suc j) h k = ap suc (length_without xs j (omega arith))
  length_merged f (x ∷ xs) (suc i) (suc j) h k = ap suc (length_merged f xs i j (omega arith) (omega arith))

  -- what stands where
  pub without_before : (xs : List A) (j k : ℕ) (d : A) → k < j → get_or (without j xs) k d ≡ get_or xs k d
  unfolding without
  without_before [] j k d h = refl
  without_before (x ∷ xs) zero k d h = absurd (omega arith)
  without_before (x ∷ xs) (suc j) zero d h = refl
  without_before (x ∷ xs) (suc j) (suc k) d h = without_before xs j k d (omega arith)

  pub without_after : (xs : List A) (j k : ℕ) (d : A) → j ≤ k → get_or (without j xs) k d ≡ get_or xs (suc k) d
  unfolding without
  without_after [] j k d h = refl
  without_after (x ∷ xs) zero k d h = refl
  without_after (x ∷ xs) (suc j) zero d h = absurd (omega arith)
  without_after (x ∷ xs) (suc j) (suc k) d h = without_after xs j k d (omega arith)

  pub merged_here : (f : A → A → A) (xs : List A) (i j : ℕ) (d : A) → i < j → j < length xs → get_or (merged_at f i j xs) i d ≡ f (get_or xs i d) (get_or xs j d)
  unfolding merged_at
  merged_here f [] i j d h k = absurd (omega arith)
  merged_here f (x ∷ xs) i zero d h k = absurd (omega arith)
  merged_here f (x ∷ xs) zero (suc j) d h k = ap (f x) (any_default xs j x d (omega arith))
  merged_here f (x ∷ xs) (suc i) (suc j) d h k = merged_here f xs i j d (omega arith) (omega arith)

  pub merged_before : (f : A → A → A) (xs : List A) (i j k : ℕ) (d : A) → i < j → k < j → (k ≡ i → ⊥) → get_or (merged_at f i j xs) k d ≡ get_or xs k d
  unfolding merged_at
  merged_before f [] i j k d h l n = refl
  merged_before f (x ∷ xs) i zero k d h l n = absurd (omega arith)
  merged_before f (x ∷ xs) zero (suc j) zero d h l n = absurd (n refl)
  merged_before f (x ∷ xs) zero (suc j) (suc k) d h l n = without_before xs j k d (omega arith)
  merged_before f (x ∷ xs) (suc i) (suc j) zero d h l n = refl
  merged_before f (x ∷ xs) (suc i) (suc j) (suc k) d h l n = merged_before f xs i j k d (omega arith) (omega arith) (λ e. n (ap suc e))

  pub merged_after : (f : A → A → A) (xs : List A) (i j k : ℕ) (d : A) → i < j → j ≤ k → get_or (merged_at f i j xs) k d ≡ get_or xs (suc k) d
  unfolding merged_at
  merged_after f [] i j k d h l = refl
  merged_after f (x ∷ xs) i zero k d h l = absurd (omega arith)
  merged_after f (x ∷ xs) zero (suc j) zero d h l = absurd (omega arith)
  merged_after f (x ∷ xs) zero (suc j) (suc k) d h l = without_after xs j k d (omega arith)
  merged_after f (x ∷ xs) (suc i) (suc j) zero d h l = absurd (omega arith)
  merged_after f (x ∷ xs) (suc i) (suc j) (suc k) d h l = merged_after f xs i j k d (omega arith) (omega arith)

  -- what stands behind them stays
  without_append : (xs ys : List A) (j : ℕ) → j < length xs → without j (xs ++ ys) ≡ without j xs ++ ys
  unfolding without
  without_append [] ys j h = absurd (omega arith)
  without_append (x ∷ xs) ys zero h = refl
  without_append (x ∷ xs) ys (suc j) h = ap (λ (l : List A). x ∷ l) (without_append xs ys j (omega arith))

  pub merged_append : (f : A → A → A) (xs ys : List A) (i j : ℕ) → i < j → j < length xs → merged_at f i j (xs ++ ys) ≡ merged_at f i j xs ++ ys
  unfolding merged_at
  merged_append f [] ys i j h k = absurd (omega arith)
  merged_append f (x ∷ xs) ys i zero h k = absurd (omega arith)
  merged_append f (x ∷ xs) ys zero (suc j) h k =
      let q = List·getD-append xs ys x j (omega arith) in
      let w = without_append xs ys j (omega arith) in
      λ n. f x (q n) ∷ w n
  merged_append f (x ∷ xs) ys (suc i) (suc j) h k = ap (λ (l : List A). x ∷ l) (merged_append f xs ys i j (omega arith) (omega arith))

  -- what holds of each element and of the merged one holds of each then
  pub each_merged : (P : A → Type 0) (f : A → A → A) (xs : List A) (i j : ℕ) (d : A) → i < j → j < length xs → ((k : ℕ) → k < length xs → P (get_or xs k d))
      → P (f (get_or xs i d) (get_or xs j d)) → (k : ℕ) → k < length (merged_at f i j xs) → P (get_or (merged_at f i j xs) k d)
  each_merged P f xs i j d h within each here k below = go (eqb k i) refl (ltb k j) refl
    where
      size : suc (length (merged_at f i j xs)) ≡ length xs
      size = length_merged f xs i j h within

      go : (a : Bool) → eqb k i ≡ a → (b : Bool) → ltb k j ≡ b → P (get_or (merged_at f i j xs) k d)
      go true a b l = let e = ap (λ n. get_or (merged_at f i j xs) n d) (eqb-true k i a) ∙ merged_here f xs i j d h within in subst P (sym e) here
      go false a true l = subst P (sym (merged_before f xs i j k d h (ltb-true k j l) (eqb-false k i a))) (each k (omega (arith, below, size)))
      go false a false l = subst P (sym (merged_after f xs i j k d h (ltb-false k j l))) (each (suc k) (omega (arith, below, size)))

  -- a test that the merged element passes exactly when both do is passed by all exactly when it was
  module _ (t : A → Bool) where
    pub all_without : (xs : List A) (j : ℕ) (d : A) → j < length xs → (t (get_or xs j d) && all_of t (without j xs)) ≡ all_of t xs
    unfolding without all_of
    all_without [] j d h = absurd (omega arith)
    all_without (x ∷ xs) zero d h = refl
    all_without (x ∷ xs) (suc j) d h = swap (t (get_or xs j d)) (t x) (all_of t (without j xs)) ∙ ap (λ b. t x && b) (all_without xs j d (omega arith))
      where
        swap : (a b c : Bool) → (a && (b && c)) ≡ (b && (a && c))
        swap a b c = sym (and_assoc a b c) ∙ ap (λ e. e && c) (and_comm a b) ∙ and_assoc b a c

    pub all_merged : (f : A → A → A) (xs : List A) (i j : ℕ) (d : A) → i < j → j < length xs
        → t (f (get_or xs i d) (get_or xs j d)) ≡ (t (get_or xs i d) && t (get_or xs j d)) → all_of t (merged_at f i j xs) ≡ all_of t xs
    unfolding merged_at all_of
    all_merged f [] i j d h k e = absurd (omega arith)
    all_merged f (x ∷ xs) i zero d h k e = absurd (omega arith)
    all_merged f (x ∷ xs) zero (suc j) d h k e =
        rw (any_default xs j x d (omega arith), e) (and_assoc (t x) (t (get_or xs j d)) (all_of t (without j xs)) ∙ ap (λ b. t x && b) (all_without xs j d (omega arith)))
    all_merged f (x ∷ xs) (suc i) (suc j) d h k e = ap (λ b. t x && b) (all_merged f xs i j d (omega arith) (omega arith) e)

-- what is read off each element, where it is read off the merged one alike
module _ {A B : Type 0} (r : A → B) where
  pub map_without : (xs : List A) (j : ℕ) → map r (without j xs) ≡ without j (map r xs)
  unfolding without
  map_without [] j = refl
  map_without (x ∷ xs) zero = refl
  map_without (x ∷ xs) (suc j) = ap (λ (l : List B). r x ∷ l) (map_without xs j)

  pub map_merged : (f : A → A → A) (g : B → B → B) (xs : List A) (i j : ℕ) (d : A) → i < j → j < length xs
      → r (f (get_or xs i d) (get_or xs j d)) ≡ g (r (get_or xs i d)) (r (get_or xs j d)) → map r (merged_at f i j xs) ≡ merged_at g i j (map r xs)
  unfolding merged_at
  map_merged f g [] i j d h k e = absurd (omega arith)
  map_merged f g (x ∷ xs) i zero d h k e = absurd (omega arith)
  map_merged f g (x ∷ xs) zero (suc j) d h k e =
      let a = any_default xs j x d (omega arith) in
      let q : r (f x (get_or xs j x)) ≡ g (r x) (get_or (map r xs) j (r x)) = ap (λ y. r (f x y)) a ∙ e ∙ ap (λ y. g (r x) (r y)) (sym a) ∙ ap (g (r x)) (sym (List·getD-map r xs j x)) in
      let w = map_without xs j in
      λ n. q n ∷ w n
  map_merged f g (x ∷ xs) (suc i) (suc j) d h k e = ap (λ (l : List B). r x ∷ l) (map_merged f g xs i j d (omega arith) (omega arith) e)

-- the product of state counts stays the same where two are multiplied
product_without : (qs : List ℕ) (j d : ℕ) → j < length qs → get_or qs j d * product (without j qs) ≡ product qs
unfolding without product
product_without [] j d h = absurd (omega arith)
product_without (q ∷ qs) zero d h = refl
product_without (q ∷ qs) (suc j) d h =
    let a = get_or qs j d in
    let p = product (without j qs) in
    sym (mul_assoc a q p) ∙ ap (λ x. x * p) (mul_comm a q) ∙ mul_assoc q a p ∙ ap (λ x. q * x) (product_without qs j d (omega arith))

pub product_merged : (qs : List ℕ) (i j : ℕ) → i < j → j < length qs → product (merged_at (λ m n. m * n) i j qs) ≡ product qs
unfolding merged_at product
product_merged [] i j h k = absurd (omega arith)
product_merged (q ∷ qs) i zero h k = absurd (omega arith)
product_merged (q ∷ qs) zero (suc j) h k = mul_assoc q (get_or qs j q) (product (without j qs)) ∙ ap (λ x. q * x) (product_without qs j q (omega arith))
product_merged (q ∷ qs) (suc i) (suc j) h k = ap (λ x. q * x) (product_merged qs i j (omega arith) (omega arith))
