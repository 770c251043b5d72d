-- S-12 in the request's words, over the calls: the card trimmed of one arc that a word's answer does not travel gives that word the same answer and
-- profile under the same ranking, provided the second call's slices are long enough.
use Rattle.std.specs.Prelude.{◌≡◌, ◌*◌, ◌≤◌}
use Rattle.basics.specs.Words.{subst, false, List, ℕ, length}
use Rattle.card.specs.Card.{card_refusal, machines_of}
use Rattle.candidate.specs.declared.Evaluation.{Evaluation}
use Rattle.product.specs.Nodes.{node_count}
use Rattle.input.specs.AcceptedInput.{accepted_input, accepted_sets_input}
use Rattle.optimizer.specs.Optimizes.{Optimizes, OptimizesSets}
use Rattle.optimizer.specs.Demands.{answered_accepts}
use Rattle.trimming.specs.Travelling.{travels}
use Rattle.trimming.specs.Trimmed.{HasArc, card_without}
use Rattle.trimming.specs.Answering.{answered_candidate, SameAnswer}
use Rattle.trimming.specs.TrimmedAnswers.{LongEnough}
use Rattle.trimming.proofs.Acceptance.{same_nodes, trimmed_accepted, trimmed_lacks}
use Rattle.trimming.proofs.Trimming.{same_answer, same_answer_sets}

-- a trimmed card has as many nodes, so its slices are long enough for the card
module _ {card : List ℕ} {i j n pairs : ℕ} {work answer : List ℕ} (ok : card_refusal card ≡ 0) (has : HasArc card i j) (long : LongEnough (card_without i j card) n pairs work answer) where
  work_enough : 8 * node_count (machines_of card) n ≤ length work
  work_enough = subst (λ (nodes : ℕ). 8 * nodes ≤ length work) (same_nodes (trimmed_lacks card i j ok has) n) long.work_holds

-- a word that has an answer on a card, and an arc of the card that the answer's candidate does not travel
module _ (ranking : List ℕ) {card word work workAfter answer answerAfter secondWork secondWorkAfter secondAnswer secondAfter : List ℕ} {r second : Evaluation} {i j : ℕ} (has : HasArc card i j) where
  pub trimmed_answer : Optimizes card ranking word work workAfter answer answerAfter r → r.number ≡ 0 → travels (machines_of card) i j (answered_candidate r answerAfter) ≡ false
      → Optimizes (card_without i j card) ranking word secondWork secondWorkAfter secondAnswer secondAfter second → LongEnough (card_without i j card) (length word) r.pairs secondWork secondAnswer
      → SameAnswer r answerAfter second secondAnswer secondAfter
  trimmed_answer first answered off call long =
      let ok = (accepted_input card ranking word (length work) (answered_accepts first answered)).accepted in
      same_answer ranking (trimmed_lacks card i j ok has) first answered call off (trimmed_accepted card i j ok has) (work_enough ok has long) long.answer_holds

  -- and for a word heard only in part
  pub trimmed_answer_sets : OptimizesSets card ranking word work workAfter answer answerAfter r → r.number ≡ 0 → travels (machines_of card) i j (answered_candidate r answerAfter) ≡ false
      → OptimizesSets (card_without i j card) ranking word secondWork secondWorkAfter secondAnswer secondAfter second → LongEnough (card_without i j card) (length word) r.pairs secondWork secondAnswer
      → SameAnswer r answerAfter second secondAnswer secondAfter
  trimmed_answer_sets first answered off call long =
      let ok = (accepted_sets_input card ranking word (length work) (answered_accepts first answered)).accepted in
      same_answer_sets ranking (trimmed_lacks card i j ok has) first answered call off (trimmed_accepted card i j ok has) (work_enough ok has long) long.answer_holds
