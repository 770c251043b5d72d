-- The work slice: eight numbers to a node. Node u's stand from u * 8 on: its state, 0 where it has no label, six counts in ranked order, the number
-- of pairs.
use Rattle.std.specs.Prelude.{◌≡◌, ◌≢◌, ◌+◌, ◌*◌, ◌≤◌, ◌<◌}
use Rattle.basics.specs.Words.{Bool, true, false, cond, List, Option, none, some, ℕ, length, get_or, eqb}
use Rattle.paths.specs.Ranked.{Ranked}

-- the slice has the node u
abbrev pub HasNode : List ℕ → ℕ → Type 0
HasNode xs u = u * 8 + 7 < length xs

-- the slice has the first n nodes
abbrev pub HasNodes : List ℕ → ℕ → Type 0
HasNodes xs n = n * 8 ≤ length xs

abbrev pub state_of : List ℕ → ℕ → ℕ
state_of xs u = get_or xs (u * 8) 0

-- what its other numbers say
abbrev pub cost_at : List ℕ → ℕ → Ranked 6
cost_at xs u = (get_or xs (u * 8 + 1) 0, (get_or xs (u * 8 + 2) 0, (get_or xs (u * 8 + 3) 0, (get_or xs (u * 8 + 4) 0, (get_or xs (u * 8 + 5) 0, (get_or xs (u * 8 + 6) 0, get_or xs (u * 8 + 7) 0))))))

-- the label of u: none where its state is 0, and past the end
unfoldable pub label_of : List ℕ → ℕ → Option (Ranked 6)
label_of xs u = cond (eqb (state_of xs u) 0) none (some (cost_at xs u))

-- the node w is the same in both
pub record AlikeAt (xs ys : List ℕ) (w : ℕ) : Type 0 where
  pub state : state_of ys w ≡ state_of xs w
  pub cost : cost_at ys w ≡ cost_at xs w

-- whether u has a label
pub record Reached (xs : List ℕ) (u : ℕ) (r : Bool) : Type 0 where
  pub label : r ≡ true → label_of xs u ≡ some (cost_at xs u)
  pub unlabelled : r ≡ false → label_of xs u ≡ none

-- ys is xs with the label c at u
pub record Stored (xs ys : List ℕ) (u : ℕ) (c : Ranked 6) : Type 0 where
  pub size : length ys ≡ length xs
  pub state : state_of ys u ≡ 1
  pub cost : cost_at ys u ≡ c
  pub others : (w : ℕ) → w ≢ u → AlikeAt xs ys w
