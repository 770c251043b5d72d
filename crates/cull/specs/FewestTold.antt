-- The fewest marks that the work slice tells after a stage.
use Rattle.basics.specs.Words.{List, Option, ℕ}
use Rattle.stage.specs.StageLabels.{stage_label}
use Rattle.cull.specs.OneConstraint.{stage_marks}

-- the fewest marks of the constraint i that the slice tells of u: none where u has no label
abbrev pub fewest_in : List ℕ → ℕ → ℕ → Option ℕ
fewest_in xs i u = stage_marks (stage_label xs i u)
