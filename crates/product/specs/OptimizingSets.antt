-- What the optimizer answers for a word heard only in part, with a set of symbols at each position: the whole result, and the answer slice at exit.
use Rattle.std.specs.Prelude.{◌&&◌, ◌∷◌, ◌*◌}
use Rattle.basics.specs.Words.{Bool, not, List, [], ℕ, length, leb, all_of, member}
use Rattle.refusals.specs.Refusals.{refuse, first_of}
use Rattle.machine.specs.Symbols.{empty_symbol}
use Rattle.machine.specs.Part.{sound_set}
use Rattle.ranking.specs.Rankings.{is_ranking}
use Rattle.card.specs.Layout.{machine_count, symbol_count}
use Rattle.card.specs.Card.{machines_of}
use Rattle.candidate.specs.declared.Evaluation.{Evaluation}
use Rattle.product.specs.Nodes.{node_count}
use Rattle.product.specs.Sets.{best_of_sets}
use Rattle.product.specs.Answering.{before_search, answered, answered_slice}

-- a set is not empty, has no bit over S, and does not hold the empty symbol
abbrev pub symbol_set : ℕ → ℕ → Bool
symbol_set S set = sound_set S set && not (member set empty_symbol)

-- 8's length limit, and 25 in the place of its symbol test
unfoldable pub sets_refusal : ℕ → List ℕ → ℕ
sets_refusal S sets = first_of (refuse 8 (leb (length sets) 24) ∷ refuse 25 (all_of (symbol_set S) sets) ∷ [])

-- the checks before the search: 0 where card, ranking, sets and work slice are accepted
unfoldable pub sets_input_refusal : List ℕ → List ℕ → List ℕ → ℕ → ℕ
sets_input_refusal card ranking sets room =
    before_search card (refuse 7 (is_ranking (machine_count card) ranking)) (sets_refusal (symbol_count card) sets) (8 * node_count (machines_of card) (length sets)) room

-- the whole result; 10 is that no word with one symbol from each set has a complete candidate
abbrev pub optimized_sets : List ℕ → List ℕ → List ℕ → ℕ → ℕ → Evaluation
optimized_sets card ranking sets workRoom answerRoom = answered (sets_input_refusal card ranking sets workRoom) (best_of_sets card ranking sets) sets answerRoom

-- the answer slice at exit
abbrev pub optimized_sets_answer : List ℕ → List ℕ → List ℕ → ℕ → List ℕ → List ℕ
optimized_sets_answer card ranking sets workRoom answer = answered_slice (sets_input_refusal card ranking sets workRoom) (best_of_sets card ranking sets) answer
