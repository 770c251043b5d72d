-- The search, for input that passed the checks 1 to 9.
use Rattle.std.specs.Prelude.{◌≡◌, ◌+◌, ◌*◌, ◌≤◌}
use Rattle.basics.specs.Words.{true, List, Option, some, none, ℕ, length, leb}
use Rattle.refusals.specs.Refusals.{refuse}
use Rattle.ranking.specs.Rankings.{is_ranking}
use Rattle.card.specs.Layout.{machine_count, symbol_count}
use Rattle.card.specs.Card.{card_refusal, machines_of}
use Rattle.candidate.specs.declared.Evaluation.{Evaluation}
use Rattle.product.specs.Best.{Contender}
use Rattle.product.specs.Answering.{answered, answered_slice}
use Rattle.product.specs.Optimizing.{sound_word}
use Rattle.paths.specs.Ranked.{Ranked, letter_count}
use Rattle.product.specs.Nodes.{product, state_counts}
use Rattle.product.specs.ProductGraph.{card_start}
use Rattle.product.specs.Setting.{Setting}
use Rattle.product.specs.Sets.{are64_bits}
use Rattle.tables.specs.Work.{label_of, cost_at}
use Rattle.labelling.specs.Labelling.{PositionsDone}

-- accepted sets, all of them 64-bit numbers, with just the room for the nodes in the work slice
pub record SetsPre (card ranking sets work : List ℕ) (size : ℕ) : Type 0 where
  pub setting : Setting card sets size
  pub ranks : is_ranking (machine_count card) ranking ≡ true
  pub bits : are64_bits sets ≡ true
  pub room : length work ≡ (length sets + 1) * size * 8

-- the same with an accepted word
pub record SearchPre (card ranking word work : List ℕ) (size : ℕ) : Type 0 where
  pub accepted : card_refusal card ≡ 0
  pub ranks : is_ranking (machine_count card) ranking ≡ true
  pub sound : sound_word (symbol_count card) word ≡ true
  pub states : size ≡ product (state_counts (machines_of card))
  pub room : length work ≡ (length word + 1) * size * 8

-- what the search answers by what the best is, and the slices at exit
pub record Searched (b : Option Contender) (word work workAfter answer answerAfter : List ℕ) (r : Evaluation) : Type 0 where
  pub result : r ≡ answered 0 b word (length answer)
  pub answer_slice : answerAfter ≡ answered_slice 0 b answer
  pub work_length : length workAfter ≡ length work

-- the checks 10 and 12 by the label of the start, which is what the best candidate costs
abbrev pub label_refusal : Option (Ranked 6) → ℕ → ℕ
label_refusal none room = 10
label_refusal (some c) room = refuse 12 (leb (2 * letter_count 6 c) room)

-- the start has a label, and the answer slice has room for as many pairs as it says
pub record StartFits (card work : List ℕ) (room : ℕ) : Type 0 where
  pub label_is : label_of work (card_start card) ≡ some (cost_at work (card_start card))
  pub fits : 2 * letter_count 6 (cost_at work (card_start card)) ≤ room

-- what the walk of the best candidate needs
pub record BestPre (card ranking sets work : List ℕ) (size room : ℕ) : Type 0 where
  pub sets_pre : SetsPre card ranking sets work size
  pub done : PositionsDone card ranking sets work work 0
  pub start : StartFits card work room
