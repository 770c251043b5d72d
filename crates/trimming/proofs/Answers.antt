-- Calls that answer with number 0, by the best candidate: the same for every order, a word and sets. Assumes nothing.
use Rattle.std.specs.Prelude.{◌≡◌, ◌∷◌, ◌++◌, ◌*◌, ◌≤◌}
use Rattle.basics.specs.Words.{refl, sym, ◌∙◌, ap, ap₂, subst, List, [], Option, some, Option·none-ne-some, ℕ, arith, length, take, drop, take_at}
use Rattle.machine.specs.declared.Pair.{Pair}
use Rattle.candidate.specs.declared.Evaluation.{Evaluation}
use Rattle.candidate.specs.Candidates.{pairs_of, bytes_of}
use Rattle.product.specs.Best.{Contender}
use Rattle.product.specs.Answering.{evaluation_of, filled}
use Rattle.product.specs.Laws.Preference.{length_bytes}
use Rattle.optimizer.specs.Optimizes.{Answers}
use Rattle.optimizer.specs.Demands.{Outcome, nothing, no_room, found, outcome, answered_accepts}
use Rattle.trimming.specs.Answering.{answered_candidate, SameAnswer}

-- b is the best, and is answered
pub record Answered (best : Option Contender) (word answer after : List ℕ) (r : Evaluation) (b : Contender) : Type 0 where
  pub is : best ≡ some b
  pub result : r ≡ evaluation_of (some b) word
  pub answer_slice : after ≡ filled (some b) answer

module _ {n : ℕ} {best : Option Contender} {word work workAfter answer after : List ℕ} {r : Evaluation} (c : Answers n best word work workAfter answer after r) where
  -- with number 0 there is one
  pub answered_by : r.number ≡ 0 → (b : Contender) × Answered best word answer after r b
  answered_by z = go (outcome c (answered_accepts c z))
    where
      go : Outcome best word answer after r → (b : Contender) × Answered best word answer after r b
      go (nothing e k u) = absurd (omega (arith, k, z))
      go (no_room b e l k u) = absurd (omega (arith, k, z))
      go (found b e l q u) = (b, record { is = e; result = q; answer_slice = u })

  -- and where nothing is refused the best is
  answers : n ≡ 0 → (b : Contender) → best ≡ some b → 2 * length b.candidate ≤ length answer → Answered best word answer after r b
  answers ok b is fits = go (outcome c ok)
    where
      go : Outcome best word answer after r → Answered best word answer after r b
      go (nothing e k u) = absurd (Option·none-ne-some b (sym e ∙ is))
      go (no_room d e l k u) = let s : d ≡ b = cc (e, is) in absurd (omega (arith, l, fits, ap (λ (a : Contender). length a.candidate) s))
      go (found d e l q u) = let s : d ≡ b = cc (e, is) in subst (Answered best word answer after r) s (record { is = e; result = q; answer_slice = u })

-- ---- the pairs in an answer slice

pairs_of_bytes : (c : List Pair) → pairs_of (bytes_of c) ≡ c
unfolding pairs_of bytes_of
pairs_of_bytes [] = refl
pairs_of_bytes (p ∷ ps) = ap (λ (l : List Pair). p ∷ l) (pairs_of_bytes ps)

module _ {best : Option Contender} {word answer after : List ℕ} {r : Evaluation} {b : Contender} (a : Answered best word answer after r b) where
  front : take (2 * r.pairs) after ≡ bytes_of b.candidate
  front =
      ap₂ (λ (v : Evaluation) (l : List ℕ). take (2 * v.pairs) l) a.result a.answer_slice
      ∙ take_at (bytes_of b.candidate) (drop (2 * length b.candidate) answer) (2 * length b.candidate) (length_bytes b.candidate)

  pub its_candidate : answered_candidate r after ≡ b.candidate
  its_candidate = ap pairs_of front ∙ pairs_of_bytes b.candidate

  -- a second call with the same best answers the same
  pub answers_again : {m : ℕ} {second-best : Option Contender} {work workAfter secondAnswer secondAfter : List ℕ} {second : Evaluation} → Answers m second-best word work workAfter secondAnswer secondAfter second → m ≡ 0 → second-best ≡ some b
      → 2 * r.pairs ≤ length secondAnswer → SameAnswer r after second secondAnswer secondAfter
  answers_again {secondAnswer = secondAnswer} c ok is fits =
      let q = ap (λ (v : Evaluation). v.pairs) a.result in
      let d = answers c ok b is (omega (arith, q)) in
      record {
        result = d.result ∙ sym a.result;
        pairs = d.answer_slice ∙ ap₂ (λ (l : List ℕ) (k : ℕ). l ++ drop (2 * k) secondAnswer) (sym front) (sym q);
      }

  -- and the same answer is the same candidate
  pub same_candidate : {secondAnswer secondAfter : List ℕ} {second : Evaluation} → SameAnswer r after second secondAnswer secondAfter → answered_candidate second secondAfter ≡ b.candidate
  same_candidate {secondAnswer = secondAnswer} same =
      ap₂ (λ (v : Evaluation) (l : List ℕ). pairs_of (take (2 * v.pairs) l)) same.result same.pairs
      ∙ ap pairs_of (take_at (take (2 * r.pairs) after) (drop (2 * r.pairs) secondAnswer) (2 * r.pairs) (ap length front ∙ length_bytes b.candidate ∙ sym (ap (λ (v : Evaluation). 2 * v.pairs) a.result)))
      ∙ its_candidate
