-- Laws of labels as numbers. Assumes nothing.
use Rattle.std.specs.Prelude.{◌≡◌, ◌≤◌, ◌<◌}
use Rattle.basics.proofs.Words.{ap, Bool, cond, List, some, none, ℕ, length, get_or, lt-ltb, le-ltb}
use Rattle.tables.specs.Laws.Harmony.{any_default}
use Rattle.tables.specs.SumLabels.{no_label, cost_of, label_from, label_of}

-- ---- what a number says

module _ (x : ℕ) where
  pub label_some : x < no_label → label_from x ≡ some (cost_of x)
  unfolding label_from
  label_some h = ap (λ (b : Bool). cond b (some (cost_of x)) none) (lt-ltb x no_label h)

  pub label_none : no_label ≤ x → label_from x ≡ none
  unfolding label_from
  label_none h = ap (λ (b : Bool). cond b (some (cost_of x)) none) (le-ltb x no_label h)

-- ---- a number in a slice

pub label_at : (xs : List ℕ) (u : ℕ) → u < length xs → label_of xs u ≡ label_from (get_or xs u 0)
label_at xs u h = ap label_from (any_default xs u no_label 0 h)
