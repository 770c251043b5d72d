-- Demand 3, of what the calls under a ranking answer: for every card, ranking, word or list of sets, and work slice that the checks before the search
-- accept, and every answer slice. With sets the rivals are all lists of pairs, however long, that spell one of the words with one symbol from each set.
use Rattle.std.specs.Prelude.{◌≡◌, ◌↔◌}
use Rattle.basics.specs.Words.{true, List, ℕ, length}
use Rattle.machine.specs.declared.Pair.{Pair}
use Rattle.card.specs.Card.{machines_of}
use Rattle.candidate.specs.declared.Evaluation.{Evaluation}
use Rattle.candidate.specs.Candidates.{IsCandidate}
use Rattle.product.specs.Sets.{fits_sets, IsCandidateOf}
use Rattle.product.specs.Optimizing.{input_refusal}
use Rattle.product.specs.OptimizingSets.{sets_input_refusal}
use Rattle.product.specs.BestCandidate.{IsBestCandidate, IsBestOfSets}
use Rattle.product.proofs.BestTheorem.{best_is_best_of_all}
use Rattle.product.proofs.SetsTheorem.{best_is_best_of_all_words}
use Rattle.input.specs.AcceptedInput.{accepted_input, accepted_sets_input, accepted_bits}
use Rattle.optimizer.specs.Optimizes.{Optimizes, OptimizesSets}
use Rattle.optimizer.specs.Demands.{Demands, demanded}

-- for a word
abbrev pub Demand3 : (card ranking word answer after : List ℕ) → Evaluation → Type 0
Demand3 card ranking word answer after r =
    Demands (machines_of card) (IsCandidate (machines_of card) word) (IsBestCandidate ranking (machines_of card) word) word answer after r

-- for sets
abbrev pub Demand3Sets : (card ranking sets answer after : List ℕ) → Evaluation → Type 0
Demand3Sets card ranking sets answer after r =
    Demands (machines_of card) (IsCandidateOf (machines_of card) sets) (IsBestOfSets ranking (machines_of card) sets) sets answer after r

-- the theorems, of what the calls answer
module _ (card ranking : List ℕ) {word work workAfter answer answerAfter : List ℕ} {r : Evaluation} where
  pub demand_3 : Optimizes card ranking word work workAfter answer answerAfter r → input_refusal card ranking word (length work) ≡ 0 → Demand3 card ranking word answer answerAfter r
  demand_3 c ok =
      let a = accepted_input card ranking word (length work) ok in
      demanded (best_is_best_of_all card ranking word a.accepted a.ranks) c ok

module _ (card ranking : List ℕ) {sets work workAfter answer answerAfter : List ℕ} {r : Evaluation} (c : OptimizesSets card ranking sets work workAfter answer answerAfter r) (ok : sets_input_refusal card ranking sets (length work) ≡ 0) where
  pub demand_3_sets : Demand3Sets card ranking sets answer answerAfter r
  demand_3_sets =
      let a = accepted_sets_input card ranking sets (length work) ok in
      demanded (best_is_best_of_all_words card ranking sets a.accepted a.ranks (accepted_bits a)) c ok

  -- 10 exactly when no word among them has a complete candidate
  pub no_word_exactly : (r.number ≡ 10) ↔ ((word : List ℕ) → fits_sets sets word ≡ true → (d : List Pair) → ¬ (IsCandidate (machines_of card) word d))
  no_word_exactly =
      let none = demand_3_sets.none_exactly in
      (λ n word f d h. none.0 n d (record { word = word; fits = f; is = h }), λ f. none.1 (λ d h. f h.word h.fits d h.is))
