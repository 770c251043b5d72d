-- A number in decimal says that number.
use Rattle.std.specs.Prelude.{◌≡◌, ◌&&◌, ◌∷◌, ◌++◌, ◌+◌, ◌*◌, ◌/◌, ◌%◌, ◌<◌, ◌≤◌}
use Rattle.basics.specs.Words.{refl, ◌∙◌, Bool, true, false, List, [], ℕ, zero, suc, arith, ltb, not-suc-le-zero, add-one, all_of}
use Rattle.std.proofs.Common.{ltb-true, ltb-false, lt-ltb, le-ltb, le-leb}
use Rattle.writing.specs.Decimal.{is_digit, digit_value, value_from, value_of, digit_of, digits_within, decimal}

-- the digits of a number below ten, and of another
module _ (f n : ℕ) where
  one_digit : ltb n 10 ≡ true → digits_within (suc f) n ≡ digit_of n ∷ []
  unfolding digits_within
  one_digit e = rw (digits_within, e)

  more_digits : ltb n 10 ≡ false → digits_within (suc f) n ≡ digits_within f (n / 10) ++ (digit_of (n % 10) ∷ [])
  unfolding digits_within
  more_digits e = rw (digits_within, e)

-- more room than a number's digits need changes nothing
digits_fit : (f g n : ℕ) → n < f → n < g → digits_within f n ≡ digits_within g n
digits_fit zero g n hf hg = absurd (not-suc-le-zero hf)
digits_fit (suc f) zero n hf hg = absurd (not-suc-le-zero hg)
digits_fit (suc f) (suc g) n hf hg = go (ltb n 10) refl (λ h. digits_fit f g (n / 10) (omega arith) (omega arith))
  where
    go : (t : Bool) → ltb n 10 ≡ t → (10 ≤ n → digits_within f (n / 10) ≡ digits_within g (n / 10)) → digits_within (suc f) n ≡ digits_within (suc g) n
    go true e h = rw (one_digit f n e, one_digit g n e)
    go false e h = rw (more_digits f n e, more_digits g n e, h (ltb-false n 10 e))

pub decimal_digit : (n : ℕ) → n < 10 → decimal n ≡ digit_of n ∷ []
unfolding decimal
decimal_digit n h = rw (add-one n) (one_digit n n (lt-ltb n 10 h))

pub decimal_more : (n : ℕ) → 10 ≤ n → decimal n ≡ decimal (n / 10) ++ (digit_of (n % 10) ∷ [])
unfolding decimal
decimal_more n h = rw (add-one n, ← digits_fit n (n / 10 + 1) (n / 10) (omega arith) (omega arith)) (more_digits n n (le-ltb n 10 h))

-- one digit more
none_digits : all_of is_digit [] ≡ true
unfolding all_of
none_digits = refl

digit_is : (n : ℕ) → n < 10 → is_digit (digit_of n) ≡ true
digit_is n h = rw (le-leb 48 (48 + n) (omega arith), le-leb (48 + n) 57 (omega arith))

none_value : value_from 0 [] ≡ 0
unfolding value_from
none_value = refl

digits_snoc : (l : List ℕ) (n : ℕ) → n < 10 → all_of is_digit l ≡ true → all_of is_digit (l ++ (digit_of n ∷ [])) ≡ true
unfolding all_of
digits_snoc [] n h e = rw (digit_is n h)
digits_snoc (b ∷ l) n h e = go (is_digit b) e (digits_snoc l n h)
  where
    go : (t : Bool) → (t && all_of is_digit l) ≡ true → (all_of is_digit l ≡ true → all_of is_digit (l ++ (digit_of n ∷ [])) ≡ true) → (t && all_of is_digit (l ++ (digit_of n ∷ []))) ≡ true
    go true e i = i e
    go false e i = e

value_snoc : (v : ℕ) (l : List ℕ) (n : ℕ) → value_from v (l ++ (digit_of n ∷ [])) ≡ value_from v l * 10 + n
unfolding value_from
value_snoc v [] n = omega arith
value_snoc v (b ∷ l) n = value_snoc (v * 10 + digit_value b) l n

-- digits alone, which say a number
abbrev Reads : List ℕ → ℕ → Type 0
Reads l n = (all_of is_digit l ≡ true) × (value_of l ≡ n)

reads_digits : (f n : ℕ) → n < f → Reads (digits_within f n) n
reads_digits zero n h = absurd (not-suc-le-zero h)
reads_digits (suc f) n h = go (ltb n 10) refl (λ k. reads_digits f (n / 10) (omega arith))
  where
    go : (t : Bool) → ltb n 10 ≡ t → (10 ≤ n → Reads (digits_within f (n / 10)) (n / 10)) → Reads (digits_within (suc f) n) n
    go true e i = rw (one_digit f n e) (digits_snoc [] n (ltb-true n 10 e) (none_digits), value_snoc 0 [] n ∙ omega (arith, none_value))
    go false e i =
        let h = i (ltb-false n 10 e) in
        rw (more_digits f n e)
        (digits_snoc (digits_within f (n / 10)) (n % 10) (omega arith) h.0, value_snoc 0 (digits_within f (n / 10)) (n % 10) ∙ omega (arith, h.1))

-- the theorem: a number in decimal is digits alone, and they say the number
pub decimal_read : (n : ℕ) → (all_of is_digit (decimal n) ≡ true) × (value_of (decimal n) ≡ n)
unfolding decimal
decimal_read n = reads_digits (n + 1) n (omega arith)
