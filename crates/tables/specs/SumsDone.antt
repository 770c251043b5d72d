-- All nodes labelled.
use Rattle.std.specs.Prelude.{◌≡◌}
use Rattle.basics.specs.Words.{List, ℕ, length}
use Rattle.paths.specs.Positions.{Done}
use Rattle.product.specs.Setting.{position_of}
use Rattle.product.specs.WeightedPaths.{weighted_graph}
use Rattle.tables.specs.SumLabels.{label_of}

-- all positions are done
pub record AllDone (card weights sets xs ys : List ℕ) : Type 0 where
  pub size : length ys ≡ length xs
  pub done : Done (weighted_graph card weights sets) (position_of card) (label_of ys) 0
