-- Demand 3, of what the call with weights answers: for every card, weights, word and work slice that the checks 1 to 6, 26, 8 and 9 accept, and every
-- answer slice.
use Rattle.std.specs.Prelude.{◌≡◌, ◌*◌, ◌≤◌}
use Rattle.basics.specs.Words.{◌∙◌, ap, ap₂, List, Option, some, ℕ, arith, length}
use Rattle.std.proofs.Common.{le-leb}
use Rattle.machine.specs.declared.Pair.{Pair}
use Rattle.card.specs.Card.{machines_of}
use Rattle.candidate.specs.Candidates.{profile_of, IsCandidate}
use Rattle.product.specs.Best.{Contender, contender_of}
use Rattle.optimizer.specs.Demands.{Demands, demanded}
use Rattle.product.specs.Weights.{weighted_sum, best_by_weights}
use Rattle.weights.specs.declared.Weighing.{Weighing}
use Rattle.weights.specs.Weighing.{weighted_refusal, answered_sum}
use Rattle.weights.specs.Accepting.{Accepts}
use Rattle.weights.proofs.Accepting.{accepts}
use Rattle.weights.specs.WeightedBest.{IsBestByWeights, BestOfAllByWeights, weighted_best_is_best_of_all}
use Rattle.weights.specs.Searching.{Optimizes}
use Rattle.weights.specs.Demand3.{Demand3}

module _ {card weights word work workAfter answer answerAfter : List ℕ} {r : Weighing} (c : Optimizes card weights word work workAfter answer answerAfter r) (ok : weighted_refusal card weights word (length work) ≡ 0) where
  accepted : Accepts card weights word (length work)
  accepted = accepts card weights word (length work) ok

  all : BestOfAllByWeights card weights word
  all = weighted_best_is_best_of_all card weights word accepted.accepted

  of_word : Demands (machines_of card) (IsCandidate (machines_of card) word) (IsBestByWeights weights (machines_of card) word) word answer answerAfter r.evaluation
  of_word = demanded all c.answers ok

  -- the sum of a best that the answer slice has room for
  sum_of_best : (b : Contender) → best_by_weights card weights word ≡ some b → 2 * length b.candidate ≤ length answer → r.sum ≡ weighted_sum weights b.profile
  unfolding answered_sum
  sum_of_best b e fits =
      c.its_sum
      ∙ ap₂ (λ (n : ℕ) (o : Option Contender). answered_sum n weights o (length answer)) ok e
      ∙ rw (le-leb (2 * length b.candidate) (length answer) fits)

  -- the theorem, of what the call answers
  pub demand_3 : Demand3 card weights word answer answerAfter r
  demand_3 = record {
    demands = of_word;
    its_sum = λ z d k.
        let t = of_word.answered z in
        let q : contender_of (machines_of card) d ≡ contender_of (machines_of card) t.0 = cc (all.only_it d k, all.only_it t.0 t.1.is_best) in
        sum_of_best (contender_of (machines_of card) d) (all.only_it d k) (omega (arith, ap (λ (b : Contender). length b.candidate) q, t.1.fits));
  }
