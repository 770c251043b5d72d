-- The search, for input that passed the checks before it.
use Rattle.std.specs.Prelude.{◌≡◌, ◌∷◌, ◌+◌, ◌*◌, ◌%◌}
use Rattle.basics.specs.Words.{true, List, [], Option, ℕ, length, leb, ltb}
use Rattle.refusals.specs.Refusals.{refuse, first_of}
use Rattle.card.specs.Layout.{machine_count, symbol_count}
use Rattle.card.specs.Card.{card_refusal, machines_of}
use Rattle.product.specs.Best.{Contender}
use Rattle.product.specs.Optimizing.{sound_word}
use Rattle.product.specs.Nodes.{product, state_counts}
use Rattle.product.specs.Setting.{Setting}
use Rattle.product.specs.Sets.{are64_bits}
use Rattle.readout.specs.Searching as ranked
use Rattle.optimizer.specs.Optimizes.{Answers}
use Rattle.product.specs.Weights.{sound_weights, best_by_weights}
use Rattle.tables.specs.SumLabels.{no_label}
use Rattle.weights.specs.declared.Weighing.{Weighing}
use Rattle.weights.specs.Weighing.{weighted_refusal, answered_sum, weighed}

-- the checks 10 and 12 by the number of the start's label
abbrev pub number_refusal : ℕ → ℕ → ℕ
number_refusal x room = first_of (refuse 10 (ltb x no_label) ∷ refuse 12 (leb (2 * (x % 4096)) room) ∷ [])

-- accepted sets, all of them 64-bit numbers, with just the room for the nodes in the work slice
pub record SetsPre (card weights sets work : List ℕ) (size : ℕ) : Type 0 where
  pub setting : Setting card sets size
  pub weighs : sound_weights (machine_count card) weights ≡ true
  pub bits : are64_bits sets ≡ true
  pub room : length work ≡ (length sets + 1) * size

-- the same with an accepted word
pub record SearchPre (card weights word work : List ℕ) (size : ℕ) : Type 0 where
  pub accepted : card_refusal card ≡ 0
  pub weighs : sound_weights (machine_count card) weights ≡ true
  pub sound : sound_word (symbol_count card) word ≡ true
  pub states : size ≡ product (state_counts (machines_of card))
  pub room : length work ≡ (length word + 1) * size

-- what the search answers by what the best is, and the slices at exit; and the sum besides
pub record Searched (weights : List ℕ) (b : Option Contender) (word work workAfter answer answerAfter : List ℕ) (r : Weighing) : Type 0 where
  pub searched : ranked.Searched b word work workAfter answer answerAfter r.evaluation
  pub its_sum : r.sum ≡ answered_sum 0 weights b (length answer)

-- the contract of the call: that of every call, and the sum besides. The answer slice at exit is `weighedAnswer`
pub record Optimizes (card weights word work workAfter answer answerAfter : List ℕ) (r : Weighing) : Type 0 where
  pub answers : Answers (weighted_refusal card weights word (length work)) (best_by_weights card weights word) word work workAfter answer answerAfter r.evaluation
  pub its_sum : r.sum ≡ answered_sum (weighted_refusal card weights word (length work)) weights (best_by_weights card weights word) (length answer)

-- so the result is what the definition gives
pub is_weighed : {card weights word work workAfter answer answerAfter : List ℕ} {r : Weighing} → Optimizes card weights word work workAfter answer answerAfter r → r ≡ weighed card weights word (length work) (length answer)
is_weighed c = λ i. record { evaluation = c.answers.result i; sum = c.its_sum i }
