-- Laws of the marks of a pair as one number: each mark is at most 15, and the number has them all.
use Rattle.std.specs.Prelude.{◌≡◌, ◌+◌, ◌*◌, ◌/◌, ◌%◌, ◌^◌, ◌≤◌, ◌<◌}
use Rattle.basics.specs.Words.{refl, sym, ◌∙◌, ap, ℕ, zero, suc, arith, mod-lt, div-lt_iff_lt-mul, mul-le-mul_right, mul-add-div_right, mul-add-mod_self_right, div-eq_of_lt, mod-eq_of_lt, one-le-pow, pow-succ'}
use Rattle.paths.specs.Ranked.{Ranked, letter_count, count_at}
use Rattle.tables.specs.Marks.{nibbles, from_nibbles}

base_pos : (k : ℕ) → 0 < 16 ^ k
base_pos k = one-le-pow k 16 (omega arith)

-- the first mark and what is left
module _ (k e : ℕ) where
  rest_below : e % 16 ^ k < 16 ^ k
  rest_below = mod-lt e (base_pos k)

  first_below : e < 16 ^ suc k → e / 16 ^ k < 16
  first_below h = (div-lt_iff_lt-mul (base_pos k)).1 (rw pow-succ' at h)

-- ---- how large they are

pub nibbles_letters : (k e : ℕ) → letter_count k (nibbles k e) ≡ 1
unfolding nibbles
nibbles_letters zero e = refl
nibbles_letters (suc k) e = nibbles_letters k (e % 16 ^ k)

pub nibbles_most : (k i e : ℕ) → e < 16 ^ k → count_at k i (nibbles k e) ≤ 15
unfolding nibbles
nibbles_most zero i e h = omega arith
nibbles_most (suc k) zero e h = omega (arith, first_below k e h)
nibbles_most (suc k) (suc i) e h = nibbles_most k i (e % 16 ^ k) (rest_below k e)

-- ---- making the number

pub from_nibbles_below : (k : ℕ) (c : Ranked k) → ((i : ℕ) → count_at k i c ≤ 15) → from_nibbles k c < 16 ^ k
unfolding from_nibbles
from_nibbles_below zero c f = omega arith
from_nibbles_below (suc k) c f =
    let m : c.0 * 16 ^ k ≤ 15 * 16 ^ k = mul-le-mul_right (16 ^ k) (f zero) in
    rw pow-succ' (omega (arith, from_nibbles_below k c.1 (λ i. f (suc i))))

-- the marks that it stands for are those that it was made of
pub nibbles_back : (k : ℕ) (c : Ranked k) → ((i : ℕ) → count_at k i c ≤ 15) → letter_count k c ≡ 1 → nibbles k (from_nibbles k c) ≡ c
unfolding nibbles from_nibbles
nibbles_back zero c f l = sym l
nibbles_back (suc k) c f l =
    let t = from_nibbles_below k c.1 (λ i. f (suc i)) in
    let a : (c.0 * 16 ^ k + from_nibbles k c.1) / 16 ^ k ≡ c.0 = mul-add-div_right (base_pos k) c.0 (from_nibbles k c.1) ∙ ap (λ (n : ℕ). c.0 + n) (div-eq_of_lt t) ∙ omega arith in
    let b : (c.0 * 16 ^ k + from_nibbles k c.1) % 16 ^ k ≡ from_nibbles k c.1 = mul-add-mod_self_right c.0 (16 ^ k) (from_nibbles k c.1) ∙ mod-eq_of_lt t in
    let r = ap (nibbles k) b ∙ nibbles_back k c.1 (λ i. f (suc i)) l in
    λ i. (a i, r i)
