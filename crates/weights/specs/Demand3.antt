-- Demand 3, of what the call with weights answers: for every card, weights, word and work slice that the checks 1 to 6, 26, 8 and 9 accept, and every
-- answer slice.
use Rattle.std.specs.Prelude.{◌≡◌, ◌*◌, ◌≤◌}
use Rattle.basics.specs.Words.{◌∙◌, ap, ap₂, List, Option, some, ℕ, arith, length}
use Rattle.machine.specs.declared.Pair.{Pair}
use Rattle.card.specs.Card.{machines_of}
use Rattle.candidate.specs.Candidates.{profile_of, IsCandidate}
use Rattle.optimizer.specs.Demands.{Demands}
use Rattle.product.specs.Weights.{weighted_sum}
use Rattle.weights.specs.declared.Weighing.{Weighing}
use Rattle.weights.specs.WeightedBest.{IsBestByWeights}

pub record Demand3 (card weights word answer after : List ℕ) (r : Weighing) : Type 0 where
  -- what demand 3 says, of the best by weights
  pub demands : Demands (machines_of card) (IsCandidate (machines_of card) word) (IsBestByWeights weights (machines_of card) word) word answer after r.evaluation
  -- and the result carries its sum
  pub its_sum : r.evaluation.number ≡ 0 → (c : List Pair) → IsBestByWeights weights (machines_of card) word c → r.sum ≡ weighted_sum weights (profile_of (machines_of card) c)
