-- What the call with weights answers: the whole result, and the answer slice at exit.
use Rattle.std.specs.Prelude.{Result, Ok, Err, ◌*◌}
use Rattle.basics.specs.Words.{List, Option, some, none, ℕ, length}
use Rattle.refusals.specs.declared.Refusal.{Refusal}
use Rattle.refusals.specs.Refusals.{number_of, refuse, unless_refused}
use Rattle.card.specs.Layout.{machine_count, symbol_count}
use Rattle.card.specs.Card.{machines_of}
use Rattle.candidate.specs.declared.Evaluation.{Evaluation}
use Rattle.candidate.specs.Evaluating.{as_evaluation, refused}
use Rattle.product.specs.Nodes.{node_count}
use Rattle.product.specs.Best.{Contender}
use Rattle.product.specs.Answering.{before_search, call_refusal, answered, answered_slice}
use Rattle.product.specs.Optimizing.{sound_word}
use Rattle.product.specs.Weights.{sound_weights, weighted_sum, best_by_weights}
use Rattle.weights.specs.declared.Weighed.{Weighed}
use Rattle.weights.specs.declared.Weighing.{Weighing}

-- the checks before the search, 1 to 6, 26, 8, 9: 0 where card, weights, word and work slice are accepted
unfoldable pub weighted_refusal : List ℕ → List ℕ → List ℕ → ℕ → ℕ
weighted_refusal card weights word room =
    before_search card (refuse 26 (sound_weights (machine_count card) weights)) (refuse 8 (sound_word (symbol_count card) word)) (2 * node_count (machines_of card) (length word)) room

-- a refusal: its number, every other field 0
abbrev pub refused_weighing : ℕ → Weighing
refused_weighing n = record { evaluation = refused n; sum = 0 }

abbrev pub weighing_of : Result Weighed Refusal → Weighing
weighing_of (Ok w) = record { evaluation = as_evaluation (Ok w.evaluated); sum = w.sum }
weighing_of (Err r) = refused_weighing (number_of r)

abbrev pub sum_of : List ℕ → Option Contender → ℕ
sum_of weights none = 0
sum_of weights (some b) = weighted_sum weights b.profile

-- what every call answers, and the sum besides
unfoldable pub answered_sum : ℕ → List ℕ → Option Contender → ℕ → ℕ
answered_sum n weights best room = unless_refused (call_refusal n best room) (sum_of weights best) (λ n. 0)

abbrev pub answered_weighing : ℕ → List ℕ → Option Contender → List ℕ → ℕ → Weighing
answered_weighing n weights best word room = record { evaluation = answered n best word room; sum = answered_sum n weights best room }

-- the whole result
abbrev pub weighed : List ℕ → List ℕ → List ℕ → ℕ → ℕ → Weighing
weighed card weights word workRoom answerRoom = answered_weighing (weighted_refusal card weights word workRoom) weights (best_by_weights card weights word) word answerRoom

-- the answer slice at exit
abbrev pub weighed_answer : List ℕ → List ℕ → List ℕ → ℕ → List ℕ → List ℕ
weighed_answer card weights word workRoom answer = answered_slice (weighted_refusal card weights word workRoom) (best_by_weights card weights word) answer
