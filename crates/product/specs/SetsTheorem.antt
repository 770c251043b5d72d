-- The theorem on the best over sets: what the definition finds is the best of the candidates, however long, for all words with one symbol from
-- each set. It holds for every accepted card, every order on profiles with a price that agrees with it, and every list of 64-bit numbers as sets,
-- the empty one too.
use Rattle.basics.specs.Words.{List, ℕ}
use Rattle.card.specs.Card.{machines_of}
use Rattle.product.specs.Sets.{IsCandidateOf, best_of_sets}
use Rattle.product.specs.BestCandidate.{Beats, BestOf}

-- ---- under a ranking

abbrev pub BestOfAllWords : (card ranking sets : List ℕ) → Type 0
BestOfAllWords card ranking sets =
    BestOf (machines_of card) (Beats ranking (machines_of card)) (IsCandidateOf (machines_of card) sets) (best_of_sets card ranking sets)
