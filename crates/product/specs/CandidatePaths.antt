-- The tie of candidates to the product, for accepted cards: from the start node a list of pairs has a cost exactly when it is a candidate for
-- the word, and the cost is the price of its profile and its pair count. Under a ranking that is its profile in ranked order with its pair count.
use Rattle.std.specs.Prelude.{◌≡◌}
use Rattle.basics.specs.Words.{List, some, ℕ, length}
use Rattle.machine.specs.declared.Pair.{Pair}
use Rattle.card.specs.Card.{machines_of, card_refusal}
use Rattle.candidate.specs.Candidates.{profile_of, IsCandidate}
use Rattle.product.specs.Sets.{singletons}
use Rattle.paths.specs.Costs.{Costs}
use Rattle.paths.specs.Graph.{path_cost}
use Rattle.product.specs.Prices.{Price, by_ranking}
use Rattle.product.specs.ProductGraph.{priced_graph, card_start}
use Rattle.product.specs.Laws.Candidates as candidates
use Rattle.product.specs.Laws.Accepted.{accepted_machines}

pub record CandidatesAt {costs : Costs} (price : Price costs) (card word : List ℕ) : Type 0 where
  pub candidate_cost : (c : List Pair) → IsCandidate (machines_of card) word c → path_cost (priced_graph price card (singletons word)) (card_start card) c ≡ some (price.of (profile_of (machines_of card) c) (length c))
  pub cost_candidate : (c : List Pair) (x : costs.Cost) → path_cost (priced_graph price card (singletons word)) (card_start card) c ≡ some x → IsCandidate (machines_of card) word c

pub candidates_at : {costs : Costs} (price : Price costs) (card word : List ℕ) → card_refusal card ≡ 0 → CandidatesAt price card word
candidates_at price card word ok =
    let sound = (accepted_machines card ok).sound in
    record { candidate_cost = candidates.candidate_cost price word sound; cost_candidate = λ c x h. (candidates.cost_candidate price word sound c x h).is }

abbrev pub CandidatesArePaths : (card ranking word : List ℕ) → Type 0
CandidatesArePaths card ranking word = CandidatesAt (by_ranking ranking) card word

pub candidates_are_paths : (card ranking word : List ℕ) → card_refusal card ≡ 0 → CandidatesArePaths card ranking word
candidates_are_paths card r word ok = candidates_at (by_ranking r) card word ok
