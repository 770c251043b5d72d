-- Numbers in decimal.
use Rattle.std.specs.Prelude.{◌&&◌, ◌∷◌, ◌++◌, ◌+◌, ◌-◌, ◌*◌, ◌/◌, ◌%◌}
use Rattle.basics.specs.Words.{Bool, true, false, List, [], ℕ, zero, suc, leb, ltb}
use Prim.Native.Char.{code}

-- a byte that is a decimal digit, and the number that it says
abbrev pub is_digit : ℕ → Bool
is_digit b = leb (code "0") b && leb b (code "9")

abbrev pub digit_value : ℕ → ℕ
digit_value b = b - code "0"

-- the number that digits say, where those before them say n
unfoldable pub value_from : ℕ → List ℕ → ℕ
value_from n [] = n
value_from n (b ∷ bs) = value_from (n * 10 + digit_value b) bs

abbrev pub value_of : List ℕ → ℕ
value_of digits = value_from 0 digits

-- the digit of a number below ten
abbrev pub digit_of : ℕ → ℕ
digit_of n = code "0" + n

-- the digits of a number that has at most so many
unfoldable pub digits_within : ℕ → ℕ → List ℕ
digits_within zero n = []
digits_within (suc most) n = elim (ltb n 10) [ true ↦ digit_of n ∷ [] | false ↦ digits_within most (n / 10) ++ (digit_of (n % 10) ∷ []) ]

-- a number in decimal, with no zero in front and 0 as one digit; a number n has at most n + 1 digits
unfoldable pub decimal : ℕ → List ℕ
decimal n = digits_within (n + 1) n
