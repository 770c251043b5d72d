-- The marks of a pair as one number: four bits a machine in ranked order, the highest ranked machine's first.
use Rattle.std.specs.Prelude.{ℕ, zero, suc, ◌+◌, ◌*◌, ◌/◌, ◌%◌, ◌^◌}
use Rattle.paths.specs.Ranked.{Ranked}

-- the k marks that the number e stands for, and one pair
unfoldable pub nibbles : (k : ℕ) → ℕ → Ranked k
nibbles zero e = 1
nibbles (suc k) e = (e / 16 ^ k, nibbles k (e % 16 ^ k))

-- the number that stands for these marks
unfoldable pub from_nibbles : (k : ℕ) → Ranked k → ℕ
from_nibbles zero c = 0
from_nibbles (suc k) c = c.0 * 16 ^ k + from_nibbles k c.1

abbrev pub marks_cost : ℕ → Ranked 6
marks_cost e = nibbles 6 e
