-- What a search answers: a refusal, 10 or 12, or the best. Assumes nothing.
use Rattle.std.specs.Prelude.{◌≡◌, ◌<◌}
use Rattle.basics.specs.Words.{sym, ◌∙◌, ap, List, Option, some, ℕ, length}
use Rattle.refusals.specs.Refusals.{unless_refused}
use Rattle.refusals.proofs.Refusals.{accepted as taken, not_accepted}
use Rattle.candidate.specs.declared.Evaluation.{Evaluation}
use Rattle.candidate.specs.Evaluating.{refused}
use Rattle.product.specs.Best.{Contender}
use Rattle.product.specs.Answering.{call_refusal, evaluation_of, filled, answered, answered_slice}
use Rattle.readout.specs.Searching.{Searched}

module _ {best : Option Contender} {word work workAfter answer : List ℕ} {r : Evaluation} (w : length workAfter ≡ length work) where
  -- 10 or 12
  pub search_refused : (n : ℕ) → n ≡ call_refusal 0 best (length answer) → 0 < n → r ≡ refused n → Searched best word work workAfter answer answer r
  unfolding answered answered_slice
  search_refused n e h q = record { result = q ∙ by (evaluation_of best word) refused; answer_slice = by (filled best answer) (λ n. answer); work_length = w }
    where
      by : {A : Type 0} (a : A) (f : ℕ → A) → f n ≡ unless_refused (call_refusal 0 best (length answer)) a f
      by a f = sym (not_accepted n a f h) ∙ ap (λ (m : ℕ). unless_refused m a f) e

  -- or the best
  pub search_found : {b : Contender} {answerAfter : List ℕ} → best ≡ some b → call_refusal 0 best (length answer) ≡ 0 → r ≡ evaluation_of (some b) word → answerAfter ≡ filled (some b) answer
      → Searched best word work workAfter answer answerAfter r
  unfolding answered answered_slice
  search_found is ok e s = record {
    result = e ∙ sym (ap (λ (o : Option Contender). evaluation_of o word) is) ∙ sym (taken (evaluation_of best word) refused ok);
    answer_slice = s ∙ sym (ap (λ (o : Option Contender). filled o answer) is) ∙ sym (taken (filled best answer) (λ n. answer) ok);
    work_length = w;
  }
