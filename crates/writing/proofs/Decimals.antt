-- Laws of numbers in decimal. Assumes nothing.
use Rattle.std.specs.Prelude.{◌≡◌, ◌∷◌, ◌+◌, ◌*◌, ◌/◌, ◌%◌, ◌^◌, ◌<◌, ◌≤◌}
use Rattle.basics.proofs.Words.{refl, ap, ◌∙◌, Bool, true, false, List, [], ℕ, zero, suc, arith, length, get_or, drop, length-append, drop_of_length-le, ltb, leb, lit<, lit≤, pow-suc, pow-le-pow_right, add-one, leb-true, ltb-true, ltb-false, left, right}
use Rattle.writing.specs.Decimal.{is_digit, digit_value, value_from, digit_of, decimal}
use Rattle.writing.specs.DecimalRead.{decimal_digit, decimal_more}
use Rattle.writing.proofs.Lists.{rest_cons}

-- how many digits there are
pub digit_length : (n : ℕ) → n < 10 → length (decimal n) ≡ 1
digit_length n h = ap length (decimal_digit n h)

pub more_length : (n : ℕ) → 10 ≤ n → length (decimal n) ≡ length (decimal (n / 10)) + 1
more_length n h = ap length (decimal_more n h) ∙ length-append (decimal (n / 10)) (digit_of (n % 10) ∷ [])

-- a number below the power of ten has at most so many digits
pub decimal_length : (k n : ℕ) → n < 10 ^ suc k → length (decimal n) ≤ suc k
decimal_length zero n h = rw (decimal_digit n h) (lit≤ tt)
decimal_length (suc k) n h = go (ltb n 10) refl (decimal_length k (n / 10) (omega (arith, pow-suc 10 (suc k))))
  where
    go : (t : Bool) → ltb n 10 ≡ t → length (decimal (n / 10)) ≤ suc k → length (decimal n) ≤ suc (suc k)
    go true e i = rw (decimal_digit n (ltb-true n 10 e)) (omega arith)
    go false e i = rw (decimal_more n (ltb-false n 10 e), length-append) (omega arith)

-- digits
pub record Digit (b : ℕ) : Type 0 where
  pub low : 48 ≤ b
  pub high : b ≤ 57

pub digit_facts : (b : ℕ) → is_digit b ≡ true → Digit b
digit_facts b e = record { low = leb-true 48 b (left (leb 48 b) (leb b 57) e); high = leb-true b 57 (right (leb 48 b) (leb b 57) e) }

-- the value of digits, from a place on
module _ (n : ℕ) (l : List ℕ) (at : ℕ) {v : ℕ} where
  pub value_next : at < length l → value_from n (drop at l) ≡ v → value_from (n * 10 + digit_value (get_or l at 0)) (drop (at + 1) l) ≡ v
  unfolding value_from
  value_next h i = rw (rest_cons l at 0 h) at i

  pub value_end : length l ≤ at → value_from n (drop at l) ≡ v → n ≡ v
  unfolding value_from
  value_end h i = rw drop_of_length-le at i

-- the powers of ten that three digits need
pub power_next : (n : ℕ) → 10 ^ (n + 1) ≡ 10 ^ n * 10
power_next n = rw add-one (pow-suc 10 n)

pub power_small : (n : ℕ) → n < 3 → 10 ^ n ≤ 100
power_small n h = pow-le-pow_right {n = 10} (lit< tt) {i = n} {j = 2} (omega arith)
