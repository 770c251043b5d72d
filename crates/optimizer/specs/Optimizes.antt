-- The contract of the calls, one for words and sets, under a ranking and by weights.
use Rattle.std.specs.Prelude.{◌≡◌, ◌≢◌}
use Rattle.basics.specs.Words.{List, Option, ℕ, length}
use Rattle.candidate.specs.declared.Evaluation.{Evaluation}
use Rattle.product.specs.Best.{Contender, best}
use Rattle.product.specs.Sets.{best_of_sets}
use Rattle.product.specs.Answering.{answered, answered_slice}
use Rattle.product.specs.Optimizing.{input_refusal}
use Rattle.product.specs.OptimizingSets.{sets_input_refusal}
use Rattle.optimizer.specs.SmallAnswers.{SmallAnswer}

-- the result and the answer slice at exit are what the definitions give from n, the number of the checks before the search, the best candidate and the
-- word or the sets. The work slice keeps its length; where the checks before the search refuse it keeps its contents, and otherwise its contents at
-- exit are left open. At most 3,199 pairs are answered, and no count above 48,000
pub record Answers (n : ℕ) (best : Option Contender) (word work workAfter answer answerAfter : List ℕ) (r : Evaluation) : Type 0 where
  pub result : r ≡ answered n best word (length answer)
  pub answer_slice : answerAfter ≡ answered_slice n best answer
  pub work_length : length workAfter ≡ length work
  pub work_kept : n ≢ 0 → workAfter ≡ work
  pub small : SmallAnswer r

-- under a ranking. For a word the result is `optimized`, and the answer slice at exit `optimizedAnswer`
abbrev pub Optimizes : (card ranking word work workAfter answer answerAfter : List ℕ) → Evaluation → Type 0
Optimizes card ranking word work workAfter answer answerAfter r =
    Answers (input_refusal card ranking word (length work)) (best card ranking word) word work workAfter answer answerAfter r

-- for words heard only in part: `optimizedSets`, and `optimizedSetsAnswer`
abbrev pub OptimizesSets : (card ranking sets work workAfter answer answerAfter : List ℕ) → Evaluation → Type 0
OptimizesSets card ranking sets work workAfter answer answerAfter r =
    Answers (sets_input_refusal card ranking sets (length work)) (best_of_sets card ranking sets) sets work workAfter answer answerAfter r
