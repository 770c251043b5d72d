-- S-8, of what the call with weights answers, for the same input as demand 3.
use Rattle.std.specs.Prelude.{◌≡◌}
use Rattle.basics.specs.Words.{List, ℕ, length}
use Rattle.card.specs.Layout.{symbol_count}
use Rattle.card.specs.Card.{machines_of}
use Rattle.candidate.specs.Candidates.{IsCandidate}
use Rattle.product.proofs.CountsFit.{unbeaten_fit}
use Rattle.product.specs.Weights.{by_sum}
use Rattle.product.specs.WeightedPaths.{weights_agree}
use Rattle.input.specs.AcceptedInput.{short_word}
use Rattle.optimizer.specs.CountsThatFit.{CountsThatFit, fitting}
use Rattle.weights.specs.declared.Weighing.{Weighing}
use Rattle.weights.specs.Weighing.{weighted_refusal}
use Rattle.weights.proofs.Accepting.{accepts}
use Rattle.weights.specs.WeightedBest.{IsBestByWeights, sum_beats}
use Rattle.weights.specs.Searching.{Optimizes}
use Rattle.weights.specs.CountsThatFit.{CountsByWeights}

-- the theorem, of what the call answers
pub counts_that_fit : (card weights : List ℕ) {word work workAfter answer answerAfter : List ℕ} {r : Weighing} → Optimizes card weights word work workAfter answer answerAfter r
    → weighted_refusal card weights word (length work) ≡ 0 → CountsByWeights card weights word r
counts_that_fit card weights {word} {work} c ok =
    let a = accepts card weights word (length work) ok in
    fitting (weights_agree weights) (unbeaten_fit (weights_agree weights) card a.accepted word (short_word (symbol_count card) word a.sound)) (sum_beats weights (machines_of card)) c.answers
