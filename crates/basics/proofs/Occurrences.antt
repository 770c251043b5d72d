-- Laws of how often a number stands in a list. Assumes nothing.
use mathlib.Core.Path.{◌≡◌, refl, sym, ap}
use mathlib.Core.Bool.{Bool, true, false}
use mathlib.Core.List.{List, [], ◌∷◌, ◌++◌, Memᴰ}
use Prim.Native.Nat.{ℕ, zero, suc, ◌+◌, ◌<◌, ◌≤◌}
use native.Mathlib.Omega.{arith}
use lib.Dec.{eqb}
use lib.ListN.{length, get_or}
use borrow.Author.Tests.{eqb-true, eq-eqb, ne_eqb}
use Rattle.basics.specs.Search.{occurrences}

-- how a loop that counts goes on: at the list's end, and at an element and the rest
pub occurs_none : (n : ℕ) {xs : List ℕ} → xs ≡ [] → occurrences n xs ≡ 0
unfolding occurrences
occurs_none n e = rw e

module _ {n x : ℕ} {xs rest : List ℕ} (e : xs ≡ x ∷ rest) where
  pub occurs_here : x ≡ n → occurrences n xs ≡ suc (occurrences n rest)
  unfolding occurrences
  occurs_here p = rw (e, eq-eqb x n p, occurrences)

  pub occurs_later : (x ≡ n → ⊥) → occurrences n xs ≡ occurrences n rest
  unfolding occurrences
  occurs_later p = rw (e, ne_eqb x n p, occurrences)

module _ (n : ℕ) where
  pub occurrences_append : (xs ys : List ℕ) → occurrences n (xs ++ ys) ≡ occurrences n xs + occurrences n ys
  unfolding occurrences
  occurrences_append [] ys = omega arith
  occurrences_append (x ∷ xs) ys = go (eqb x n) refl (occurrences_append xs ys)
    where
      go : (b : Bool) → eqb x n ≡ b → occurrences n (xs ++ ys) ≡ occurrences n xs + occurrences n ys
          → occurrences n (x ∷ xs ++ ys) ≡ occurrences n (x ∷ xs) + occurrences n ys
      go true e r = rw (e, occurrences) (omega arith)
      go false e r = rw (e, occurrences) r

  -- a number that occurs has a place, and what has a place occurs
  pub its_place : (xs : List ℕ) → 0 < occurrences n xs → (i : ℕ) × (i < length xs) × (get_or xs i 0 ≡ n)
  unfolding occurrences
  its_place [] h = absurd (omega arith)
  its_place (x ∷ xs) h = go (eqb x n) refl (its_place xs)
    where
      go : (b : Bool) → eqb x n ≡ b → (0 < occurrences n xs → (i : ℕ) × (i < length xs) × (get_or xs i 0 ≡ n)) → (i : ℕ) × (i < suc (length xs)) × (get_or (x ∷ xs) i 0 ≡ n)
      go true e r = (0, omega arith, eqb-true x n e)
      go false e r = let q = r (rw (e, occurrences) at h) in (suc q.0, omega arith, q.2)

  pub place_occurs : (xs : List ℕ) (i : ℕ) → i < length xs → get_or xs i 0 ≡ n → 0 < occurrences n xs
  unfolding occurrences
  place_occurs [] i h e = absurd (omega arith)
  place_occurs (x ∷ xs) zero h e = rw (eq-eqb x n e, occurrences) (omega arith)
  place_occurs (x ∷ xs) (suc i) h e = go (eqb x n) refl (place_occurs xs i (omega arith) e)
    where
      go : (b : Bool) → eqb x n ≡ b → 0 < occurrences n xs → 0 < occurrences n (x ∷ xs)
      go true q r = rw (q, occurrences) (omega arith)
      go false q r = rw (q, occurrences) r

  pub member_occurs : {xs : List ℕ} → Memᴰ n xs → 0 < occurrences n xs
  unfolding occurrences
  member_occurs (Memᴰ.head {x = x} e) = rw (eq-eqb x n (sym e), occurrences) (omega arith)
  member_occurs (Memᴰ.tail {x = x} {xs = xs} m) = go (eqb x n) refl (member_occurs m)
    where
      go : (b : Bool) → eqb x n ≡ b → 0 < occurrences n xs → 0 < occurrences n (x ∷ xs)
      go true q r = rw (q, occurrences) (omega arith)
      go false q r = rw (q, occurrences) r

  pub occurs_member : (xs : List ℕ) → 0 < occurrences n xs → Memᴰ n xs
  unfolding occurrences
  occurs_member [] h = absurd (omega arith)
  occurs_member (x ∷ xs) h = go (eqb x n) refl (occurs_member xs)
    where
      go : (b : Bool) → eqb x n ≡ b → (0 < occurrences n xs → Memᴰ n xs) → Memᴰ n (x ∷ xs)
      go true e r = Memᴰ.head (sym (eqb-true x n e))
      go false e r = Memᴰ.tail (r (rw (e, occurrences) at h))

  -- what occurs once has one place
  pub one_place : (xs : List ℕ) → occurrences n xs ≤ 1 → (i j : ℕ) → i < length xs → j < length xs → get_or xs i 0 ≡ n → get_or xs j 0 ≡ n → i ≡ j
  unfolding occurrences
  one_place [] h i j p q d e = absurd (omega arith)
  one_place (x ∷ xs) h zero zero p q d e = refl
  one_place (x ∷ xs) h zero (suc j) p q d e =
      let t : suc (occurrences n xs) ≤ 1 = rw (eq-eqb x n d, occurrences) at h in
      absurd (omega (arith, place_occurs xs j (omega arith) e))
  one_place (x ∷ xs) h (suc i) zero p q d e =
      let t : suc (occurrences n xs) ≤ 1 = rw (eq-eqb x n e, occurrences) at h in
      absurd (omega (arith, place_occurs xs i (omega arith) d))
  one_place (x ∷ xs) h (suc i) (suc j) p q d e = go (eqb x n) refl (λ r. one_place xs r i j (omega arith) (omega arith) d e)
    where
      go : (b : Bool) → eqb x n ≡ b → (occurrences n xs ≤ 1 → i ≡ j) → suc i ≡ suc j
      go true t r =
          let u : suc (occurrences n xs) ≤ 1 = rw (t, occurrences) at h in
          absurd (omega (arith, place_occurs xs i (omega arith) d))
      go false t r = ap suc (r (rw (t, occurrences) at h))
