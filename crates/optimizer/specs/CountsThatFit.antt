-- S-8, of what the calls under a ranking answer: how far the counts go. It is said of the same contract as demand 3, for the same input.
use Rattle.std.specs.Prelude.{◌≡◌}
use Rattle.basics.specs.Words.{List, Option, ℕ, length}
use Rattle.machine.specs.declared.Pair.{Pair}
use Rattle.machine.specs.Machine.{Machine}
use Rattle.card.specs.Layout.{symbol_count}
use Rattle.card.specs.Card.{machines_of}
use Rattle.candidate.specs.declared.Evaluation.{Evaluation}
use Rattle.candidate.specs.Candidates.{IsCandidate}
use Rattle.paths.specs.Costs.{Costs}
use Rattle.product.specs.Best.{Contender, ProfileOrder, harmonic}
use Rattle.product.specs.Sets.{IsCandidateOf}
use Rattle.product.specs.Prices.{Price, Agrees, ranking_agrees}
use Rattle.product.specs.Optimizing.{input_refusal}
use Rattle.product.specs.OptimizingSets.{sets_input_refusal}
use Rattle.product.specs.BestCandidate.{IsBestBy, BeatsOn, IsUnbeatenIn, IsBestCandidate, IsBestOfSets}
use Rattle.product.specs.CountsFit.{CountsFit}
use Rattle.product.proofs.CountsFit.{unbeaten_fit, unbeaten_of_sets_fit}
use Rattle.product.specs.Laws.BestCandidate.{beats_harmonic, best_by, best_unbeaten}
use Rattle.input.specs.AcceptedInput.{accepted_input, short_word, accepted_sets_input}
use Rattle.optimizer.specs.SmallAnswers.{SmallAnswer}
use Rattle.optimizer.specs.Optimizes.{Answers, Optimizes, OptimizesSets}

-- by the order on profiles, the machines, the number of symbols, and which candidates are meant
pub record CountsThatFit (better : ProfileOrder) (ms : List Machine) (n : ℕ) (Meant IsBest : List Pair → Type 0) (r : Evaluation) : Type 0 where
  -- each candidate that none beats by profile or pair count passes no node twice, so it has at most 3,199 pairs and no count above 48,000
  pub unbeaten_fit : (c : List Pair) → IsUnbeatenIn better ms Meant c → CountsFit ms n c
  -- the best one is such a candidate
  pub best_unbeaten : (c : List Pair) → IsBest c → IsUnbeatenIn better ms Meant c
  -- and no more is answered
  pub answer_small : SmallAnswer r

-- for a word
abbrev pub CountsOfWord : (card ranking word : List ℕ) → Evaluation → Type 0
CountsOfWord card ranking word r = CountsThatFit (harmonic ranking) (machines_of card) (length word) (IsCandidate (machines_of card) word) (IsBestCandidate ranking (machines_of card) word) r

-- for sets
abbrev pub CountsOfSets : (card ranking sets : List ℕ) → Evaluation → Type 0
CountsOfSets card ranking sets r = CountsThatFit (harmonic ranking) (machines_of card) (length sets) (IsCandidateOf (machines_of card) sets) (IsBestOfSets ranking (machines_of card) sets) r

-- in any order with a price that agrees with it
pub fitting : {costs : Costs} {price : Price costs} {better : ProfileOrder} → Agrees price better → {ms : List Machine} {k : ℕ} {Meant : List Pair → Type 0} {beats : List Pair → List Pair → Type 0}
    → ((c : List Pair) → IsUnbeatenIn better ms Meant c → CountsFit ms k c) → ((c d : List Pair) → beats c d → BeatsOn better ms c d)
    → {n : ℕ} {best : Option Contender} {word work workAfter answer after : List ℕ} {r : Evaluation} → Answers n best word work workAfter answer after r → CountsThatFit better ms k Meant (IsBestBy beats Meant) r
fitting agrees fit in_order c = record { unbeaten_fit = fit; best_unbeaten = λ b k. best_unbeaten agrees b (best_by in_order b k); answer_small = c.small }

-- the theorems, of what the calls answer
module _ (card ranking : List ℕ) {work workAfter answer answerAfter : List ℕ} {r : Evaluation} where
  pub counts_that_fit : {word : List ℕ} → Optimizes card ranking word work workAfter answer answerAfter r → input_refusal card ranking word (length work) ≡ 0 → CountsOfWord card ranking word r
  counts_that_fit {word} c ok =
      let a = accepted_input card ranking word (length work) ok in
      fitting (ranking_agrees ranking) (unbeaten_fit (ranking_agrees ranking) card a.accepted word (short_word (symbol_count card) word a.sound)) (beats_harmonic ranking (machines_of card)) c

  pub counts_that_fit_sets : {sets : List ℕ} → OptimizesSets card ranking sets work workAfter answer answerAfter r → sets_input_refusal card ranking sets (length work) ≡ 0 → CountsOfSets card ranking sets r
  counts_that_fit_sets {sets} c ok =
      let a = accepted_sets_input card ranking sets (length work) ok in
      fitting (ranking_agrees ranking) (unbeaten_of_sets_fit (ranking_agrees ranking) card a.accepted sets a.sound.short) (beats_harmonic ranking (machines_of card)) c
