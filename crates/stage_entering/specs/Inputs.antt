-- Trying the nodes of a position in a stage by the pairs with one input.
use Rattle.std.specs.Prelude.{◌≡◌, ◌⊎◌, ◌+◌, ◌≤◌, ◌<◌}
use Rattle.basics.specs.Words.{List, ℕ, length}
use Rattle.machine.specs.declared.Pair.{Pair}
use Rattle.card.specs.Card.{machines_of}
use Rattle.paths.specs.Ranked.{ranked_costs}
use Rattle.paths.specs.Graph.{Graph}
use Rattle.paths.specs.Labels.{Attained}
use Rattle.product.specs.ProductGraph.{pairs}
use Rattle.tables.specs.Places.{six_places, SixPlaces}
use Rattle.tables.specs.JointNumbers.{joint_from}
use Rattle.insertions.specs.RankedWeights.{RankedWeights}
use Rattle.stage_entering.specs.declared.Site.{Site}
use Rattle.stage_entering.specs.Entering.{AheadOf, codes_at, NodesPre}
use Rattle.stage.specs.StageLabels.{count_of, stage_label}
use Rattle.stage_entering.specs.Relaxation.{Relaxes}
use Rattle.stage.specs.Relaxing.{LinkedEntry}
use Rattle.stage_entering.specs.Tables.{ListPre}

-- ---- what is asked

-- the weights are those of a ranking
pub record InOrder (ranking ws : List ℕ) : Type 0 where
  pub ranked : RankedWeights (six_places ranking) ws
  pub six : SixPlaces (six_places ranking)

pub record InputPre (xs ahead card counts ws steps high low : List ℕ) (at : Site) (x : ℕ) : Type 0 where
  pub given : NodesPre xs at.base (codes_at at) at.stage
  pub ahead_is : AheadOf xs at.stage (at.base + codes_at at) (codes_at at) ahead
  pub tables : ListPre card counts ws steps at.groups
  pub ranking : List ℕ
  pub order : InOrder ranking ws
  pub input : x < 64
  pub high_size : length high ≡ 264
  pub low_size : length low ≡ 264

-- ---- what is done

-- the joint steps with the input x from the P nodes from b on, to those from t on, are edges of S
pub record SymbolLinked (S : Graph (ranked_costs 1) pairs) (xs card ranking : List ℕ) (k x b t P : ℕ) : Type 0 where
  pub entry : (c y : ℕ) → c < P → LinkedEntry S xs k (b + c) (record { input = x; output = y }) t (joint_from (six_places ranking) (machines_of card) c (record { input = x; output = y }))
  pub alike : (c y n : ℕ) → c < P → joint_from (six_places ranking) (machines_of card) c (record { input = x; output = y }) ≡ joint_from (six_places ranking) (machines_of card) c (record { input = x; output = n })
      → S.edge (b + c) (record { input = x; output = y }) ≡ S.edge (b + c) (record { input = x; output = n })

-- the pairs with the input x of the P nodes from b on
abbrev pub Among : (x b P : ℕ) → ℕ → Pair → Type 0
Among x b P w p = (p.input ≡ x) × (b ≤ w) × (w < b + P) × (p.output < 64)

-- they were tried
pub record InputTried (card ws xs ys : List ℕ) (x b P k : ℕ) : Type 0 where
  pub size : length ys ≡ length xs
  pub counts : (i w : ℕ) → i < k → count_of ys i w ≡ count_of xs i w
  pub others : (w : ℕ) → (w < b) ⊎ (b + P ≤ w) → stage_label ys k w ≡ stage_label xs k w
  pub relaxes : (ranking : List ℕ) → InOrder ranking ws → (S : Graph (ranked_costs 1) pairs) → SymbolLinked S xs card ranking k x b (b + P) P → Attained S (stage_label xs k)
      → Relaxes S (stage_label xs k) (stage_label ys k) (Among x b P)
