-- Sets of machines in a byte, as the code tests and grows them. Assumes nothing.
use Rattle.std.specs.Prelude.{◌≡◌, ◌&&◌, ◌||◌, ◌*◌, ◌/◌, ◌%◌, ◌^◌, ◌<◌}
use Rattle.basics.proofs.Words.{sym, ◌∙◌, ap, Bool, true, false, not, ℕ, arith, eqb, ltb, div-lt_iff_lt-mul, div-eq_of_lt, one-mul, every_below, member, eqb-true, eqb-false, eq-eqb, ltb-true, lt-ltb, not-true, same, clash, every_at, each_below, no_member, its_member, member_one, member_and, member_or}
use lib.Bits.{bit_and, bit_or, and_lt}
use lib.Pow.{pow_pos, shl_exact}
use Rattle.finder.specs.Finder.{disjoint}
use Rattle.ranking.specs.Lemmas.Searches.{split}

-- sets that do not meet, machine by machine
module _ (a b : ℕ) where
  pub disjoint_at : disjoint a b ≡ true → (i : ℕ) → i < 8 → member a i ≡ true → member b i ≡ false
  unfolding disjoint
  disjoint_at t i h m = let e = not-true (member a i && member b i) (every_at (λ i. not (member a i && member b i)) 8 t i h) in rw m at e

  pub at_disjoint : ((i : ℕ) → i < 8 → member a i ≡ true → member b i ≡ false) → disjoint a b ≡ true
  unfolding disjoint
  at_disjoint f =
      each_below (λ i. not (member a i && member b i)) 8
      (λ i h. split (member a i) (λ m. rw (m, f i h m)) (λ m. rw m))

-- two bytes whose intersection is empty do not meet
pub disjoint_and : (a b : ℕ) → a < 2 ^ 8 → b < 2 ^ 8 → eqb (bit_and a b) 0 ≡ disjoint a b
unfolding disjoint
disjoint_and a b ha hb =
    same (eqb (bit_and a b) 0) (every_below (λ i. not (member a i && member b i)) 8)
    (λ t.
    each_below (λ i. not (member a i && member b i)) 8
    (λ i h. ap not (sym (member_and a b i) ∙ ap (λ (w : ℕ). member w i) (eqb-true (bit_and a b) 0 t) ∙ no_member i)))
    (λ t.
    split (eqb (bit_and a b) 0) (λ e. e)
    (λ e.
    let m = its_member 8 (bit_and a b) (and_lt 8 a b ha hb) (omega (arith, eqb-false (bit_and a b) 0 e)) in
    absurd
    (clash (sym (member_and a b m.0) ∙ m.2)
    (not-true (member a m.0 && member b m.0) (every_at (λ i. not (member a i && member b i)) 8 t m.0 m.1)))))

-- a set of numbers below K alone
pub below_shifted : (K w : ℕ) → eqb (w / 2 ^ K) 0 ≡ ltb w (2 ^ K)
below_shifted K w =
    same (eqb (w / 2 ^ K) 0) (ltb w (2 ^ K))
    (λ t.
    let e : w / 2 ^ K < 1 = omega (arith, eqb-true (w / 2 ^ K) 0 t) in
    lt-ltb w (2 ^ K) (omega (arith, (div-lt_iff_lt-mul {k = 2 ^ K} {x = w} {y = 1} (pow_pos K)).0 e)))
    (λ t. eq-eqb (w / 2 ^ K) 0 (div-eq_of_lt (ltb-true w (2 ^ K) t)))

-- a set with one number more, as the code adds it
pub member_with : (w m n : ℕ) → m < 8 → member (bit_or w ((1 * 2 ^ m) % 2 ^ 8)) n ≡ (member w n || eqb n m)
member_with w m n h =
    let e : (1 * 2 ^ m) % 2 ^ 8 ≡ 2 ^ m = shl_exact 1 m 8 (omega arith) (omega arith) ∙ one-mul (2 ^ m) in
    ap (λ (x : ℕ). member (bit_or w x) n) e ∙ member_or w (2 ^ m) n ∙ ap (λ (b : Bool). member w n || b) (member_one m n)
