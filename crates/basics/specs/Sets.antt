-- Sets of small numbers as the bits of one number.
use Rattle.std.specs.Prelude.{Bool, cond, ℕ, zero, suc, ◌+◌, ◌/◌, ◌%◌, ◌^◌, eqb}

-- bit n of the set is 1
abbrev pub member : ℕ → ℕ → Bool
member set n = eqb (set / 2 ^ n % 2) 1

-- the set of the numbers below n that pass
unfoldable pub set_of : (ℕ → Bool) → ℕ → ℕ
set_of f zero = 0
set_of f (suc n) = set_of f n + cond (f n) (2 ^ n) 0
