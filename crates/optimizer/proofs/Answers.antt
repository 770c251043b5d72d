-- What the calls answer, by the checks that the input passes and by the best candidate: for every order, a word or sets. Assumes nothing.
use Rattle.std.specs.Prelude.{◌≡◌, ◌∷◌, ◌++◌, ◌≢◌, ◌<◌, ◌≤◌}
use Rattle.basics.specs.Words.{refl, ◌∙◌, ap, List, [], Option, some, ℕ, zero, suc, arith, length, take, drop, length-append, length-drop}
use Rattle.card.specs.Layout.{symbol_count}
use Rattle.candidate.specs.declared.Evaluation.{Evaluation}
use Rattle.candidate.specs.Evaluating.{refused}
use Rattle.product.specs.Best.{Contender, best}
use Rattle.product.specs.Sets.{best_of_sets}
use Rattle.product.specs.Prices.{ranking_agrees}
use Rattle.product.specs.Answering.{answered, answered_slice}
use Rattle.product.specs.Optimizing.{input_refusal}
use Rattle.product.specs.OptimizingSets.{sets_input_refusal}
use Rattle.product.specs.CountsFit.{SmallBest}
use Rattle.product.proofs.CountsFit.{best_in_is_small, best_of_sets_is_small}
use Rattle.input.specs.AcceptedInput.{accepted_input, short_word, accepted_sets_input}
use Rattle.optimizer.specs.SmallAnswers.{small_answer}
use Rattle.optimizer.specs.Optimizes.{Answers}
use Rattle.readout.specs.Searching.{Searched}

-- ---- the contract, where the best of accepted input is small

module _ {n : ℕ} {best : Option Contender} (small : n ≡ 0 → (b : Contender) → best ≡ some b → SmallBest b) {word work answer : List ℕ} {r : Evaluation} where
  call_answers : {workAfter answerAfter : List ℕ} → r ≡ answered n best word (length answer) → answerAfter ≡ answered_slice n best answer → length workAfter ≡ length work → (n ≢ 0 → workAfter ≡ work)
      → Answers n best word work workAfter answer answerAfter r
  call_answers e s l k = record { result = e; answer_slice = s; work_length = l; work_kept = k; small = rw e (small_answer n best word (length answer) small) }

  -- a refusal of the input
  pub call_refused : (m : ℕ) → m ≡ n → 0 < m → r ≡ refused m → Answers n best word work work answer answer r
  unfolding answered answered_slice
  call_refused zero e h q = absurd (omega arith)
  call_refused (suc m) e h q = call_answers (q ∙ ap (λ (k : ℕ). answered k best word (length answer)) e) (ap (λ (k : ℕ). answered_slice k best answer) e) refl (λ _. refl)

  -- accepted input: what the search answers is the call's answer
  pub call_searched : {front frontAfter workAfter answerAfter : List ℕ} → n ≡ 0 → length workAfter ≡ length work → Searched best word front frontAfter answer answerAfter r → Answers n best word work workAfter answer answerAfter r
  call_searched ok w s = call_answers (rw ok s.result) (rw ok s.answer_slice) w (λ z. absurd (z ok))

-- ---- the best of accepted input is small, under a ranking

module _ (card ranking : List ℕ) (room : ℕ) where
  pub word_best_small : (word : List ℕ) → input_refusal card ranking word room ≡ 0 → (b : Contender) → best card ranking word ≡ some b → SmallBest b
  unfolding best
  word_best_small word e =
      let a = accepted_input card ranking word room e in
      best_in_is_small (ranking_agrees ranking) card a.accepted word (short_word (symbol_count card) word a.sound)

  pub sets_best_small : (sets : List ℕ) → sets_input_refusal card ranking sets room ≡ 0 → (b : Contender) → best_of_sets card ranking sets ≡ some b → SmallBest b
  unfolding best_of_sets
  sets_best_small sets e = let a = accepted_sets_input card ranking sets room e in best_of_sets_is_small (ranking_agrees ranking) card a.accepted sets a.sound.short

-- ---- the work slice

-- the front of a slice that has so many numbers
pub front_room : (n : ℕ) (l : List ℕ) → n ≤ length l → length (take n l) ≡ n
front_room zero l h = refl
front_room (suc n) [] h = absurd (omega arith)
front_room (suc n) (x ∷ l) h = omega (arith, front_room n l (omega arith))

-- a slice whose front was written has its length
pub same_room : (n : ℕ) (l front : List ℕ) → n ≤ length l → length front ≡ length (take n l) → length (front ++ drop n l) ≡ length l
same_room n l front h e = length-append front (drop n l) ∙ omega (arith, length-drop n l, front_room n l h)
