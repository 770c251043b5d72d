-- Slices that a second call needs. The theorems, over the calls, are trimmed_answer and trimmed_answer_sets, of proofs/TrimmedAnswers.
use Rattle.std.specs.Prelude.{◌*◌, ◌≤◌}
use Rattle.basics.specs.Words.{List, ℕ, length}
use Rattle.card.specs.Card.{machines_of}
use Rattle.product.specs.Nodes.{node_count}

-- slices that are long enough for a word of n symbols and an answer of some pairs on a card
pub record LongEnough (card : List ℕ) (n pairs : ℕ) (work answer : List ℕ) : Type 0 where
  pub work_holds : 8 * node_count (machines_of card) n ≤ length work
  pub answer_holds : 2 * pairs ≤ length answer
