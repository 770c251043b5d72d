-- A list that is written element by element. Assumes nothing.
use Rattle.std.specs.Prelude.{◌≡◌, ◌<◌}
use Rattle.basics.specs.Words.{◌∙◌, List, ℕ, suc, arith, length, get_or, set, ℕ_discrete, get_or-set_same, get_or-set_other}

-- a list that agrees below i, with element i stored
pub stored : (l : List ℕ) (i v : ℕ) (f : ℕ → ℕ) → i < length l → ((k : ℕ) → k < i → get_or l k 0 ≡ f k) → v ≡ f i → (k : ℕ) → k < suc i → get_or (set l i v) k 0 ≡ f k
stored l i v f h g e k q = go (ℕ_discrete k i)
  where
    go : Dec (k ≡ i) → get_or (set l i v) k 0 ≡ f k
    go (yes p) = rw p (get_or-set_same l i v 0 h ∙ e)
    go (no p) = get_or-set_other l i k v 0 p ∙ g k (omega arith)
