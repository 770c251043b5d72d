-- The price of weights: the sum, then the number of pairs. So from the start node of the product a list of pairs has a cost exactly when it is a
-- candidate for the word, and the cost is its sum with its pair count.
use Rattle.std.specs.Prelude.{◌≡◌, ◌+◌}
use Rattle.basics.specs.Words.{List, some, inl, ℕ, arith, length}
use Rattle.std.proofs.Common.{ltb-true, ltb-false}
use Rattle.machine.specs.declared.Pair.{Pair}
use Rattle.card.specs.Card.{machines_of, card_refusal}
use Rattle.candidate.specs.Candidates.{profile_of, IsCandidate}
use Rattle.paths.specs.Ranked.{ranked_costs, letter_positive}
use Rattle.paths.specs.Graph.{Graph, path_cost}
use Rattle.product.specs.Prices.{Price, Agrees}
use Rattle.product.specs.ProductGraph.{pairs, priced_graph, card_start}
use Rattle.product.specs.Sets.{singletons}
use Rattle.product.specs.CandidatePaths.{CandidatesAt, candidates_at}
use Rattle.product.specs.Weights.{weighted_sum, by_sum}
use Rattle.product.specs.Laws.Sums.{sum_merge}

abbrev pub by_weights : List ℕ → Price (ranked_costs 1)
by_weights weights = record {
  of = λ xs n. (weighted_sum weights xs, n);
  adds = λ xs ys n m. let e = sum_merge weights xs ys in λ j. (e j, n + m);
  positive = λ xs c. letter_positive 1 (weighted_sum weights xs, 1) (omega arith) c;
}

pub weights_agree : (weights : List ℕ) → Agrees (by_weights weights) (by_sum weights)
weights_agree weights = record {
  less = λ xs ys n m e. inl (ltb-true (weighted_sum weights xs) (weighted_sum weights ys) e);
  alike = λ xs ys n e.
      let a = ltb-false (weighted_sum weights xs) (weighted_sum weights ys) e.0 in
      let b = ltb-false (weighted_sum weights ys) (weighted_sum weights xs) e.1 in
      let q : weighted_sum weights xs ≡ weighted_sum weights ys = omega arith in
      λ j. (q j, n);
}

-- the product of a card's machines over sets of symbols, for weights
abbrev pub weighted_graph : (card weights sets : List ℕ) → Graph (ranked_costs 1) pairs
weighted_graph card weights sets = priced_graph (by_weights weights) card sets

-- a list of pairs has a cost exactly when it is a candidate, and the cost is its sum with its pair count
pub candidates_are_paths : (card weights word : List ℕ) → card_refusal card ≡ 0 → CandidatesAt (by_weights weights) card word
candidates_are_paths card weights word ok = candidates_at (by_weights weights) card word ok

pub candidate_sum : (card weights word : List ℕ) → card_refusal card ≡ 0 → (c : List Pair) → IsCandidate (machines_of card) word c
    → path_cost (weighted_graph card weights (singletons word)) (card_start card) c ≡ some (weighted_sum weights (profile_of (machines_of card) c), length c)
candidate_sum card weights word ok = (candidates_are_paths card weights word ok).candidate_cost
