-- Lists of bytes, and the two bytes of a number. Assumes nothing.
use Rattle.std.specs.Prelude.{◌≡◌, ◌∷◌, ◌++◌, ◌+◌, ◌/◌, ◌%◌, ◌<◌}
use Rattle.basics.specs.Words.{List, [], ℕ, zero, suc, arith, get_or, take, drop, lit<, get_or-drop}
use Rattle.layout.specs.Layout.{Bytes, short_at}

-- the bytes that a number was read from
pub low_byte : (l : List ℕ) → Bytes l → (at : ℕ) → short_at l at % 256 ≡ get_or l at 0
low_byte l b at = omega (arith, b at, b (at + 1))

pub high_byte : (l : List ℕ) → Bytes l → (at : ℕ) → short_at l at / 256 ≡ get_or l (at + 1) 0
high_byte l b at = omega (arith, b at, b (at + 1))

-- lists of bytes from lists of bytes
pub bytes_none : Bytes []
bytes_none i = lit< tt

pub bytes_cons : (x : ℕ) (l : List ℕ) → x < 256 → Bytes l → Bytes (x ∷ l)
bytes_cons x l h b zero = h
bytes_cons x l h b (suc i) = b i

pub bytes_append : (l m : List ℕ) → Bytes l → Bytes m → Bytes (l ++ m)
bytes_append [] m b d = d
bytes_append (x ∷ l) m b d = bytes_cons x (l ++ m) (b 0) (bytes_append l m (λ i. b (suc i)) d)

pub bytes_drop : (n : ℕ) (l : List ℕ) → Bytes l → Bytes (drop n l)
bytes_drop n l b i = rw (get_or-drop n l i 0) (b (n + i))

pub bytes_take : (n : ℕ) (l : List ℕ) → Bytes l → Bytes (take n l)
bytes_take zero l b = bytes_none
bytes_take (suc n) [] b = bytes_none
bytes_take (suc n) (x ∷ l) b = bytes_cons x (take n l) (b 0) (bytes_take n l (λ i. b (suc i)))
