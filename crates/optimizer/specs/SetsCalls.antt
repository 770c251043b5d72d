-- Theorem on the calls for words heard only in part, of their contract, which every engine has.
use Rattle.std.specs.Prelude.{◌≡◌}
use Rattle.basics.specs.Words.{sym, ◌∙◌, ap, true, false, List, ℕ, length}
use Rattle.candidate.specs.declared.Evaluation.{Evaluation}
use Rattle.candidate.specs.Evaluating.{refused}
use Rattle.product.specs.Sets.{singletons}
use Rattle.product.specs.Optimizing.{optimized, optimized_answer}
use Rattle.product.specs.OneSymbolEach.{symbol_out_of_range}
use Rattle.product.proofs.OneSymbolEach.{one_symbol_result, one_symbol_refused, one_symbol_answer}
use Rattle.optimizer.specs.Optimizes.{Optimizes, OptimizesSets}

-- sets of one symbol each, with the word: one answer slice, and one result; or 25 against 8, exactly where the checks before the symbol test pass and a
-- symbol is out of range
pub record OneSymbolEach (card ranking word filled filled' : List ℕ) (r r' : Evaluation) : Type 0 where
  pub answer_slice : filled ≡ filled'
  pub result : symbol_out_of_range card ranking word ≡ false → r ≡ r'
  pub refusals : symbol_out_of_range card ranking word ≡ true → (r ≡ refused 25) × (r' ≡ refused 8)

-- sets of one symbol each give the ordinary call's answer so, for every word and work slices of one length, with any contents
pub one_symbol_each : (card ranking word : List ℕ) {work work' after after' answer filled filled' : List ℕ} {r r' : Evaluation} → length work ≡ length work'
    → OptimizesSets card ranking (singletons word) work after answer filled r → Optimizes card ranking word work' after' answer filled' r' → OneSymbolEach card ranking word filled filled' r r'
one_symbol_each card ranking word {work} {work'} {answer = answer} e a b = record {
  answer_slice = a.answer_slice ∙ one_symbol_answer card ranking word (length work) answer ∙ ap (λ (n : ℕ). optimized_answer card ranking word n answer) e ∙ sym b.answer_slice;
  result = λ t. a.result ∙ one_symbol_result card ranking word (length work) t (length answer) ∙ ap (λ (n : ℕ). optimized card ranking word n (length answer)) e ∙ sym b.result;
  refusals = λ t. (a.result ∙ (one_symbol_refused card ranking word (length work) t (length answer)).0, b.result ∙ (one_symbol_refused card ranking word (length work') t (length answer)).1);
}
