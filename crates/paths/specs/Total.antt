-- Strict total orders: of the numbers, of two places one after the other, of lists.
use Rattle.std.specs.Prelude.{◌≡◌, refl, ◌⊎◌, ◌≢◌, List, [], ◌∷◌, ℕ, ◌<◌}
use Rattle.std.proofs.Common.{sym, ◌∙◌, inl, inr, arith}
use Rattle.std.proofs.Math.Decide.{ℕ_discrete, dec_lt}

-- R is a strict total order, and `compare` decides it
pub record Total {A : Type 0} (R : A → A → Type 0) : Type 0 where
  pub irrefl : (a : A) → ¬ (R a a)
  pub trans : (a b c : A) → R a b → R b c → R a c
  pub compare : (a b : A) → R a b ⊎ ((a ≡ b) ⊎ R b a)

-- a is at most b
abbrev pub Upto : {A : Type 0} → (A → A → Type 0) → A → A → Type 0
Upto R a b = R a b ⊎ (a ≡ b)

module _ {A : Type 0} {R : A → A → Type 0} (T : Total R) where
  pub asym : (a b : A) → R a b → R b a → ⊥
  asym a b h k = T.irrefl a (T.trans a b a h k)

  pub less_not_same : {a b : A} → R a b → a ≢ b
  less_not_same {b = b} h e = T.irrefl b (rw e at h)

  pub upto_trans : {a b c : A} → Upto R a b → Upto R b c → Upto R a c
  upto_trans {a} {b} {c} (inl h) (inl k) = inl (T.trans a b c h k)
  upto_trans (inl h) (inr e) = inl (rw e at h)
  upto_trans (inr e) k = rw e k

  pub upto_less : {a b c : A} → Upto R a b → R b c → R a c
  upto_less {a} {b} {c} (inl h) k = T.trans a b c h k
  upto_less (inr e) k = rw e k

  pub upto_not_less : {a b : A} → Upto R a b → R b a → ⊥
  upto_not_less {a} h k = T.irrefl a (upto_less h k)

  pub not_less_upto : (a b : A) → ¬ (R b a) → Upto R a b
  not_less_upto a b n = go (T.compare a b)
    where
      go : R a b ⊎ ((a ≡ b) ⊎ R b a) → Upto R a b
      go (inl h) = inl h
      go (inr (inl e)) = inr e
      go (inr (inr h)) = absurd (n h)

  abbrev same_of : {a b : A} → R a b ⊎ ((a ≡ b) ⊎ R b a) → Dec (a ≡ b)
  same_of (inl h) = no (less_not_same h)
  same_of (inr (inl e)) = yes e
  same_of (inr (inr h)) = no (λ e. less_not_same h (sym e))

  -- whether two are the same
  unfoldable pub same? : (a b : A) → Dec (a ≡ b)
  same? a b = same_of (T.compare a b)

-- ---- the numbers

abbrev numbers_of : {m n : ℕ} → Dec (m < n) → Dec (m ≡ n) → (m < n) ⊎ ((m ≡ n) ⊎ (n < m))
numbers_of (yes h) d = inl h
numbers_of (no h) (yes e) = inr (inl e)
numbers_of {m} {n} (no h) (no e) = inr (inr (omega arith))

unfoldable pub ℕ-total : Total ◌<◌
unfolding ℕ_discrete dec_lt
ℕ-total = record {
  irrefl = λ a h. (omega arith);
  trans = λ a b c h k. (omega arith);
  compare = λ m n. numbers_of (dec_lt m n) (ℕ_discrete m n);
}

-- ---- two places: the first decides, and the second where the first is the same

module _ {A B : Type 0} (R : A → A → Type 0) (S : B → B → Type 0) where
  abbrev pub Then : A × B → A × B → Type 0
  Then x y = R x.0 y.0 ⊎ ((x.0 ≡ y.0) × S x.1 y.1)

  module _ (T : Total R) (U : Total S) where
    pub then_irrefl : (a : A × B) → ¬ (Then a a)
    then_irrefl a (inl h) = T.irrefl a.0 h
    then_irrefl a (inr h) = U.irrefl a.1 h.1

    pub then_trans : (a b c : A × B) → Then a b → Then b c → Then a c
    then_trans a b c (inl h) (inl k) = inl (T.trans a.0 b.0 c.0 h k)
    then_trans a b c (inl h) (inr k) = inl (rw k.0 at h)
    then_trans a b c (inr h) (inl k) = inl (rw h.0 k)
    then_trans a b c (inr h) (inr k) = inr (h.0 ∙ k.0, U.trans a.1 b.1 c.1 h.1 k.1)

    abbrev then_second : (a b : A × B) → a.0 ≡ b.0 → S a.1 b.1 ⊎ ((a.1 ≡ b.1) ⊎ S b.1 a.1) → Then a b ⊎ ((a ≡ b) ⊎ Then b a)
    then_second a b e (inl h) = inl (inr (e, h))
    then_second a b e (inr (inl k)) = inr (inl (λ i. (e i, k i)))
    then_second a b e (inr (inr h)) = inr (inr (inr (sym e, h)))

    abbrev then_first : (a b : A × B) → R a.0 b.0 ⊎ ((a.0 ≡ b.0) ⊎ R b.0 a.0) → Then a b ⊎ ((a ≡ b) ⊎ Then b a)
    then_first a b (inl h) = inl (inl h)
    then_first a b (inr (inl e)) = then_second a b e (U.compare a.1 b.1)
    then_first a b (inr (inr h)) = inr (inr (inl h))

    unfoldable pub then_total : Total Then
    then_total = record { irrefl = then_irrefl; trans = then_trans; compare = λ a b. then_first a b (T.compare a.0 b.0) }

-- ---- lists: the first place where they differ decides, and a list comes before the longer ones that begin with it

module _ {A : Type 0} (R : A → A → Type 0) where
  abbrev pub Lex : List A → List A → Type 0
  Lex [] [] = ⊥
  Lex [] (y ∷ ys) = Unit {0}
  Lex (x ∷ xs) [] = ⊥
  Lex (x ∷ xs) (y ∷ ys) = R x y ⊎ ((x ≡ y) × Lex xs ys)

  module _ (T : Total R) where
    pub lex_irrefl : (a : List A) → ¬ (Lex a a)
    lex_irrefl [] h = h
    lex_irrefl (x ∷ xs) (inl h) = T.irrefl x h
    lex_irrefl (x ∷ xs) (inr h) = lex_irrefl xs h.1

    pub lex_trans : (a b c : List A) → Lex a b → Lex b c → Lex a c
    lex_trans [] [] c h k = absurd h
    lex_trans [] (y ∷ ys) [] h k = absurd k
    lex_trans [] (y ∷ ys) (z ∷ zs) h k = tt
    lex_trans (x ∷ xs) [] c h k = absurd h
    lex_trans (x ∷ xs) (y ∷ ys) [] h k = absurd k
    lex_trans (x ∷ xs) (y ∷ ys) (z ∷ zs) (inl h) (inl k) = inl (T.trans x y z h k)
    lex_trans (x ∷ xs) (y ∷ ys) (z ∷ zs) (inl h) (inr k) = inl (rw k.0 at h)
    lex_trans (x ∷ xs) (y ∷ ys) (z ∷ zs) (inr h) (inl k) = inl (rw h.0 k)
    lex_trans (x ∷ xs) (y ∷ ys) (z ∷ zs) (inr h) (inr k) = inr (h.0 ∙ k.0, lex_trans xs ys zs h.1 k.1)

    abbrev lex_rest : {x y : A} {xs ys : List A} → x ≡ y → Lex xs ys ⊎ ((xs ≡ ys) ⊎ Lex ys xs) → Lex (x ∷ xs) (y ∷ ys) ⊎ ((x ∷ xs ≡ y ∷ ys) ⊎ Lex (y ∷ ys) (x ∷ xs))
    lex_rest e (inl h) = inl (inr (e, h))
    lex_rest e (inr (inl k)) = inr (inl (λ i. e i ∷ k i))
    lex_rest e (inr (inr h)) = inr (inr (inr (sym e, h)))

    abbrev lex_head : (x y : A) (xs ys : List A) → R x y ⊎ ((x ≡ y) ⊎ R y x) → Lex xs ys ⊎ ((xs ≡ ys) ⊎ Lex ys xs) → Lex (x ∷ xs) (y ∷ ys) ⊎ ((x ∷ xs ≡ y ∷ ys) ⊎ Lex (y ∷ ys) (x ∷ xs))
    lex_head x y xs ys (inl h) r = inl (inl h)
    lex_head x y xs ys (inr (inl e)) r = lex_rest e r
    lex_head x y xs ys (inr (inr h)) r = inr (inr (inl h))

    unfoldable pub lex_compare : (a b : List A) → Lex a b ⊎ ((a ≡ b) ⊎ Lex b a)
    lex_compare [] [] = inr (inl refl)
    lex_compare [] (y ∷ ys) = inl tt
    lex_compare (x ∷ xs) [] = inr (inr tt)
    lex_compare (x ∷ xs) (y ∷ ys) = let r = lex_compare xs ys in lex_head x y xs ys (T.compare x y) r

    unfoldable pub lex_total : Total Lex
    unfolding lex_compare
    lex_total = record { irrefl = lex_irrefl; trans = lex_trans; compare = lex_compare }

-- ---- by a key: a record of two numbers, say, by the pair of them

module _ {A B : Type 0} (key : A → B) (R : B → B → Type 0) where
  abbrev pub On : A → A → Type 0
  On a b = R (key a) (key b)

  module _ (injective : (a b : A) → key a ≡ key b → a ≡ b) (T : Total R) where
    abbrev on_of : (a b : A) → R (key a) (key b) ⊎ ((key a ≡ key b) ⊎ R (key b) (key a)) → On a b ⊎ ((a ≡ b) ⊎ On b a)
    on_of a b (inl h) = inl h
    on_of a b (inr (inl e)) = inr (inl (injective a b e))
    on_of a b (inr (inr h)) = inr (inr h)

    unfoldable pub on_total : Total On
    on_total = record {
      irrefl = λ a. T.irrefl (key a);
      trans = λ a b c. T.trans (key a) (key b) (key c);
      compare = λ a b. on_of a b (T.compare (key a) (key b));
    }
