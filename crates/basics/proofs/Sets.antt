-- Laws of sets as the bits of one number. Assumes nothing.
use mathlib.Core.Path.{◌≡◌, refl, sym, ◌∙◌, ap}
use mathlib.Core.Bool.{Bool, true, false, ◌&&◌, ◌||◌, cond}
use Prim.Native.Nat.{ℕ, zero, suc, ◌+◌, ◌-◌, ◌*◌, ◌/◌, ◌%◌, ◌^◌, ◌<◌, ◌≤◌, min, max}
use native.Mathlib.Decide.{dec_lt}
use native.Mathlib.Nat.{div-one, zero-div, div-eq_of_lt, pow-suc, add-mul-div_right, add-mul-mod_self_right}
use native.Mathlib.Omega.{arith}
use lib.Dec.{eqb}
use lib.Pow.{pow_pos, pow_mono, pow-add, shr-shr}
use lib.Bits.{bit_and, bit_or, and_shr, and_step, or_shr, or_step}
use borrow.Author.Tests.{eqb-true, eqb-false, eq-eqb, ne_eqb}
use Rattle.basics.specs.Sets.{member, set_of}
use Rattle.basics.proofs.Bools.{same, both, left, right, clash}

-- the empty set
pub no_member : (i : ℕ) → member 0 i ≡ false
no_member i = rw zero-div

pub has_member : (w i : ℕ) → member w i ≡ true → 0 < w
has_member zero i t = absurd (clash t (no_member i))
has_member (suc w) i t = omega arith

-- a set of numbers below n has no other member; and one that is not empty has a member below n
pub member_beyond : (w n i : ℕ) → w < 2 ^ n → n ≤ i → member w i ≡ false
member_beyond w n i h q = let e : w / 2 ^ i ≡ 0 = div-eq_of_lt (omega (arith, pow_mono q)) in rw e

pub its_member : (n w : ℕ) → w < 2 ^ n → 0 < w → (i : ℕ) × (i < n) × (member w i ≡ true)
its_member zero w h p = absurd (omega arith)
its_member (suc n) w h p = go (eqb (w % 2) 1) refl (its_member n (w / 2))
  where
    e : 2 ^ suc n ≡ 2 ^ n * 2
    e = pow-suc 2 n

    go : (b : Bool) → eqb (w % 2) 1 ≡ b → (w / 2 < 2 ^ n → 0 < w / 2 → (i : ℕ) × (i < n) × (member (w / 2) i ≡ true)) → (i : ℕ) × (i < suc n) × (member w i ≡ true)
    go true t r = (0, omega arith, rw div-one t)
    go false t r =
        let f = eqb-false (w % 2) 1 t in
        let q = r (omega (arith, e, h)) (omega (arith, f)) in
        (1 + q.0, omega arith, rw (← shr-shr w 1 q.0) q.2)

-- intersection and union
bit_min : (x y : ℕ) → x < 2 → y < 2 → eqb (min x y) 1 ≡ (eqb x 1 && eqb y 1)
bit_min x y hx hy =
    same (eqb (min x y) 1) (eqb x 1 && eqb y 1)
    (λ t. let h : min x y ≡ 1 = eqb-true (min x y) 1 t in both (eq-eqb x 1 (omega arith)) (eq-eqb y 1 (omega arith)))
    (λ t.
    let hx1 : x ≡ 1 = eqb-true x 1 (left (eqb x 1) (eqb y 1) t) in
    let hy1 : y ≡ 1 = eqb-true y 1 (right (eqb x 1) (eqb y 1) t) in
    eq-eqb (min x y) 1 (omega arith))

bit_max : (x y : ℕ) → x < 2 → y < 2 → eqb (max x y) 1 ≡ (eqb x 1 || eqb y 1)
bit_max x y hx hy = go (eqb x 1) refl (eqb y 1) refl
  where
    go : (a : Bool) → eqb x 1 ≡ a → (b : Bool) → eqb y 1 ≡ b → eqb (max x y) 1 ≡ (eqb x 1 || eqb y 1)
    go true p b q = rw p (let h = eqb-true x 1 p in eq-eqb (max x y) 1 (omega arith))
    go false p true q = rw (p, q) (let h = eqb-true y 1 q in eq-eqb (max x y) 1 (omega arith))
    go false p false q = rw (p, q) (ne_eqb (max x y) 1 (omega (arith, eqb-false x 1 p, eqb-false y 1 q)))

pub member_and : (u v i : ℕ) → member (bit_and u v) i ≡ (member u i && member v i)
member_and u v i =
    let a = u / 2 ^ i in
    let b = v / 2 ^ i in
    let e : bit_and a b % 2 ≡ min (a % 2) (b % 2) = omega (arith, and_step a b) in
    rw (and_shr u v i, e) (bit_min (a % 2) (b % 2) (omega arith) (omega arith))

pub member_or : (u v i : ℕ) → member (bit_or u v) i ≡ (member u i || member v i)
member_or u v i =
    let a = u / 2 ^ i in
    let b = v / 2 ^ i in
    let e : bit_or a b % 2 ≡ max (a % 2) (b % 2) = omega (arith, or_step a b) in
    rw (or_shr u v i, e) (bit_max (a % 2) (b % 2) (omega arith) (omega arith))

-- a set that grows by one number
with_below : (w n i : ℕ) → i < n → member (w + 2 ^ n) i ≡ member w i
with_below w n i h =
    let j = n - suc i in
    let e : 2 ^ n ≡ 2 ^ j * 2 * 2 ^ i = ap (λ m. 2 ^ m) (omega arith) ∙ pow-add 2 (suc j) i ∙ ap (λ x. x * 2 ^ i) (pow-suc 2 j) in
    rw (e, add-mul-div_right w (2 ^ j * 2) (pow_pos i), add-mul-mod_self_right (w / 2 ^ i) (2 ^ j) 2)

with_itself : (w n : ℕ) → w < 2 ^ n → member (w + 2 ^ n) n ≡ true
with_itself w n h =
    let e : w + 2 ^ n ≡ w + 1 * 2 ^ n = omega arith in
    rw (e, add-mul-div_right w 1 (pow_pos n), div-eq_of_lt h)

-- the set of the numbers below n that pass
module _ (f : ℕ → Bool) where
  pub set_start : set_of f 0 ≡ 0
  unfolding set_of
  set_start = refl

  pub set_grows : (n : ℕ) → f n ≡ true → set_of f (suc n) ≡ set_of f n + 2 ^ n
  unfolding set_of
  set_grows n t = rw t

  pub set_stays : (n : ℕ) → f n ≡ false → set_of f (suc n) ≡ set_of f n
  unfolding set_of
  set_stays n t = rw t (omega arith)

  pub set_bound : (n : ℕ) → set_of f n < 2 ^ n
  unfolding set_of
  set_bound zero = omega arith
  set_bound (suc n) = go (f n) (set_bound n)
    where
      e : 2 ^ suc n ≡ 2 ^ n * 2
      e = pow-suc 2 n

      go : (b : Bool) → set_of f n < 2 ^ n → set_of f n + cond b (2 ^ n) 0 < 2 ^ suc n
      go true h = omega (arith, e, h)
      go false h = omega (arith, e, h)

  pub set_member : (n i : ℕ) → i < n → member (set_of f n) i ≡ f i
  set_member zero i h = absurd (omega arith)
  set_member (suc n) i h = go (f n) refl (eqb i n) refl (set_member n i)
    where
      go : (a : Bool) → f n ≡ a → (b : Bool) → eqb i n ≡ b → (i < n → member (set_of f n) i ≡ f i) → member (set_of f (suc n)) i ≡ f i
      go true t true e r = let q = eqb-true i n e in rw (set_grows n t, q, t) (with_itself (set_of f n) n (set_bound n))
      go true t false e r = let q : i < n = omega (arith, eqb-false i n e) in rw (set_grows n t) (with_below (set_of f n) n i q ∙ r q)
      go false t true e r = let q = eqb-true i n e in rw (set_stays n t, q, t) (member_beyond (set_of f n) n n (set_bound n) (omega arith))
      go false t false e r = let q : i < n = omega (arith, eqb-false i n e) in rw (set_stays n t) (r q)

  pub set_beyond : (n i : ℕ) → n ≤ i → member (set_of f n) i ≡ false
  set_beyond n i h = member_beyond (set_of f n) n i (set_bound n) h

  pub set_empty : (n : ℕ) → ((i : ℕ) → i < n → f i ≡ false) → set_of f n ≡ 0
  unfolding set_of
  set_empty zero h = refl
  set_empty (suc n) h = rw (h n (omega arith)) (omega (arith, set_empty n (λ i q. h i (omega arith))))

  pub empty_set : (n : ℕ) → set_of f n ≡ 0 → (i : ℕ) → i < n → f i ≡ false
  empty_set n e i h = sym (set_member n i h) ∙ (rw e (no_member i))

-- the set of one number
pub member_one : (n i : ℕ) → member (2 ^ n) i ≡ eqb i n
member_one n i = go (dec_lt i (suc n))
  where
    f : ℕ → Bool
    f k = eqb k n

    one : set_of f (suc n) ≡ 2 ^ n
    one = set_grows f n (eq-eqb n n refl) ∙ omega (arith, set_empty f n (λ k h. ne_eqb k n (omega arith)))

    go : Dec (i < suc n) → member (2 ^ n) i ≡ eqb i n
    go (yes h) = rw (← one) (set_member f (suc n) i h)
    go (no h) = rw (← one) (set_beyond f (suc n) i (omega arith) ∙ sym (ne_eqb i n (omega arith)))
