-- The two engines, of what their calls answer: where both answer for one card and word, all weights are above zero and each is more than c times the
-- sum of those ranked below it, c being the largest count in the two profiles, they give the same candidate and profile. (That all weights are above
-- zero follows from the rest.)
use Rattle.std.specs.Prelude.{◌≡◌, ◌*◌}
use Rattle.basics.specs.Words.{List, ℕ, take}
use Rattle.candidate.specs.declared.Evaluation.{Evaluation}
use Rattle.weights.specs.declared.Weighing.{Weighing}

-- the same profile, as many pairs, and the same bytes in the front of the answer slices
pub record SameAnswer (after afterByWeights : List ℕ) (r : Evaluation) (s : Weighing) : Type 0 where
  pub profile : s.evaluation.profile ≡ r.profile
  pub pairs : s.evaluation.pairs ≡ r.pairs
  pub candidate : take (2 * s.evaluation.pairs) afterByWeights ≡ take (2 * r.pairs) after
