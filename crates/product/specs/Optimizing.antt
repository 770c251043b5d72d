-- What the optimizer answers for a word under a ranking: the whole result, and the answer slice at exit.
use Rattle.std.specs.Prelude.{◌&&◌, ◌*◌}
use Rattle.basics.specs.Words.{Bool, List, ℕ, length, leb, all_of}
use Rattle.refusals.specs.Refusals.{refuse}
use Rattle.ranking.specs.Rankings.{is_ranking}
use Rattle.card.specs.Layout.{machine_count, symbol_count}
use Rattle.card.specs.Card.{machines_of}
use Rattle.candidate.specs.declared.Evaluation.{Evaluation}
use Rattle.product.specs.Nodes.{node_count}
use Rattle.product.specs.Best.{best}
use Rattle.product.specs.Answering.{before_search, answered, answered_slice}

-- a word: 0 to 24 symbols, each of 1 to S
unfoldable pub sound_word : ℕ → List ℕ → Bool
sound_word S word = leb (length word) 24 && all_of (λ x. leb 1 x && leb x S) word

-- the checks before the search, 1 to 9: 0 where card, ranking, word and work slice are accepted
unfoldable pub input_refusal : List ℕ → List ℕ → List ℕ → ℕ → ℕ
input_refusal card ranking word room =
    before_search card (refuse 7 (is_ranking (machine_count card) ranking)) (refuse 8 (sound_word (symbol_count card) word)) (8 * node_count (machines_of card) (length word)) room

-- the whole result: 1 to 10 and 12 in their order
abbrev pub optimized : List ℕ → List ℕ → List ℕ → ℕ → ℕ → Evaluation
optimized card ranking word workRoom answerRoom = answered (input_refusal card ranking word workRoom) (best card ranking word) word answerRoom

-- the answer slice at exit
abbrev pub optimized_answer : List ℕ → List ℕ → List ℕ → ℕ → List ℕ → List ℕ
optimized_answer card ranking word workRoom answer = answered_slice (input_refusal card ranking word workRoom) (best card ranking word) answer
