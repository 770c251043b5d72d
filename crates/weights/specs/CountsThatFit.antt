-- S-8, of what the call with weights answers, for the same input as demand 3.
use Rattle.basics.specs.Words.{List, ℕ, length}
use Rattle.card.specs.Card.{machines_of}
use Rattle.candidate.specs.Candidates.{IsCandidate}
use Rattle.product.specs.Weights.{by_sum}
use Rattle.optimizer.specs.CountsThatFit.{CountsThatFit}
use Rattle.weights.specs.declared.Weighing.{Weighing}
use Rattle.weights.specs.WeightedBest.{IsBestByWeights}

abbrev pub CountsByWeights : (card weights word : List ℕ) → Weighing → Type 0
CountsByWeights card weights word r = CountsThatFit (by_sum weights) (machines_of card) (length word) (IsCandidate (machines_of card) word) (IsBestByWeights weights (machines_of card) word) r.evaluation
