-- Labelling all nodes by weights.
use Rattle.std.specs.Prelude.{◌≡◌, ◌+◌, ◌*◌}
use Rattle.basics.specs.Words.{true, List, ℕ, length}
use Rattle.card.specs.Layout.{machine_count}
use Rattle.product.specs.Setting.{Setting}
use Rattle.product.specs.Weights.{sound_weights}

-- what labelling needs
pub record LabelPre (card weights sets work : List ℕ) (P : ℕ) : Type 0 where
  pub setting : Setting card sets P
  pub weighs : sound_weights (machine_count card) weights ≡ true
  pub room : length work ≡ (length sets + 1) * P
