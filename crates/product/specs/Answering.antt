-- What a call answers, whichever order it compares profiles in and whether a word or sets are asked for: by the number of the checks before its search,
-- the best candidate, and the word or the sets.
use Rattle.std.specs.Prelude.{◌∷◌, ◌++◌, ◌*◌}
use Rattle.basics.specs.Words.{Bool, true, List, [], Option, some, none, ℕ, length, drop, leb}
use Rattle.refusals.specs.Refusals.{refuse, first_of, unless_refused}
use Rattle.card.specs.Card.{card_refusal}
use Rattle.candidate.specs.declared.Evaluation.{Evaluation}
use Rattle.candidate.specs.Candidates.{bytes_of, is_some}
use Rattle.candidate.specs.Evaluating.{profile_with, refused}
use Rattle.product.specs.Best.{Contender}

-- the checks before a search in their order: those of the card, of the ranking or the weights, of the word or the sets, by their numbers; and 9, that
-- the work slice has the numbers needed
abbrev pub before_search : List ℕ → ℕ → ℕ → ℕ → ℕ → ℕ
before_search card order word need room = first_of (card_refusal card ∷ order ∷ word ∷ refuse 9 (leb need room) ∷ [])

-- the best does not outgrow an answer slice of so many bytes
abbrev pub answer_fits : Option Contender → ℕ → Bool
answer_fits none room = true
answer_fits (some b) room = leb (2 * length b.candidate) room

-- after the checks before the search, whose number is n: 10 and 12
abbrev pub call_refusal : ℕ → Option Contender → ℕ → ℕ
call_refusal n best room = first_of (n ∷ refuse 10 (is_some best) ∷ refuse 12 (answer_fits best room) ∷ [])

abbrev pub evaluation_of : Option Contender → List ℕ → Evaluation
evaluation_of none word = refused 10
evaluation_of (some b) word = record { number = 0; profile = profile_with b.profile; pairs = length b.candidate; word_length = length word }

abbrev pub filled : Option Contender → List ℕ → List ℕ
filled none answer = answer
filled (some b) answer = bytes_of b.candidate ++ drop (2 * length b.candidate) answer

-- the whole result, with an answer slice of so many bytes; the word length is that of the word, or the number of sets
unfoldable pub answered : ℕ → Option Contender → List ℕ → ℕ → Evaluation
answered n best word room = unless_refused (call_refusal n best room) (evaluation_of best word) refused

-- the answer slice at exit: the pairs fill its front, its other bytes keep their values
unfoldable pub answered_slice : ℕ → Option Contender → List ℕ → List ℕ
answered_slice n best answer = unless_refused (call_refusal n best (length answer)) (filled best answer) (λ n. answer)
