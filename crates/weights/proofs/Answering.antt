-- The search for a word by its sets, and what the call answers. Assumes nothing.
use Rattle.std.specs.Prelude.{◌≡◌, ◌<◌, ◌≤◌}
use Rattle.basics.specs.Words.{◌∙◌, ap, true, List, some, ℕ, zero, suc, arith, length, ltb, all_of}
use Rattle.card.specs.Layout.{symbol_count}
use Rattle.product.specs.Best.{Contender}
use Rattle.product.specs.Sets.{singletons, best_of_sets_in}
use Rattle.product.specs.CountsFit.{SmallBest}
use Rattle.product.proofs.SetsTheorem.{best_in_of_one_word}
use Rattle.product.specs.Laws.Words.{accepted_word}
use Rattle.product.specs.Laws.Sets.{as_many}
use Rattle.product.specs.Laws.BestOfSets.{singletons_64}
use Rattle.input.proofs.Words.{all_small, of_sets}
use Rattle.readout.proofs.Words.{length_alike}
use Rattle.optimizer.proofs.Answers as ranked
use Rattle.product.specs.Weights.{by_sum, best_by_weights}
use Rattle.product.specs.WeightedPaths.{weights_agree}
use Rattle.tables.specs.SumsDone.{AllDone}
use Rattle.weights.specs.declared.Weighing.{Weighing}
use Rattle.weights.specs.Weighing.{weighted_refusal, refused_weighing, answered_sum}
use Rattle.weights.proofs.Accepting.{accepts}
use Rattle.weights.specs.WeightedBest.{weighted_best_is_small}
use Rattle.weights.specs.Searching.{SetsPre, SearchPre, Searched, Optimizes}

-- ---- an accepted word

module _ {card weights word work : List ℕ} {size : ℕ} (pre : SearchPre card weights word work size) where
  pub word_small : all_of (λ x. ltb x 64) word ≡ true
  word_small = all_small card word pre.accepted pre.sound

  pub short : length word ≤ 24
  short = (accepted_word (symbol_count card) word pre.sound).short

  own_sets : SetsPre card weights (singletons word) work size
  own_sets = record {
    setting = record { accepted = pre.accepted; few = omega (arith, as_many word, short); symbols = of_sets card word pre.accepted pre.sound; states = pre.states };
    weighs = pre.weighs;
    bits = singletons_64 word word_small;
    room = rw (as_many word) pre.room;
  }

  -- the search for its sets is the search for the word
  module _ (sets : List ℕ) (are : sets ≡ singletons word) where
    pub sets_pre : SetsPre card weights sets work size
    sets_pre = rw are own_sets

    pub word_searched : {after answer answerAfter : List ℕ} {r : Weighing} → Searched weights (best_of_sets_in (by_sum weights) card sets) sets work after answer answerAfter r → Searched weights (best_by_weights card weights word) word work after answer answerAfter r
    unfolding best_by_weights
    word_searched {after} {answer} {answerAfter} {r} T = let S = the_word in record { searched = length_alike word S.searched; its_sum = S.its_sum }
      where
        the_word : Searched weights (best_by_weights card weights word) (singletons word) work after answer answerAfter r
        the_word = rw (are, best_in_of_one_word (weights_agree weights) card word pre.accepted word_small) at T

-- ---- the labels are done

pub after_pre : {card weights sets work after : List ℕ} {P : ℕ} → SetsPre card weights sets work P → AllDone card weights sets work after → SetsPre card weights sets after P
after_pre pre D = record { setting = pre.setting; weighs = pre.weighs; bits = pre.bits; room = D.size ∙ pre.room }

-- ---- the call

-- the best of accepted input is small
weighted_small : (card weights word : List ℕ) (room : ℕ) → weighted_refusal card weights word room ≡ 0 → (b : Contender) → best_by_weights card weights word ≡ some b → SmallBest b
weighted_small card weights word room e = let a = accepts card weights word room e in weighted_best_is_small card weights word a.accepted (accepted_word (symbol_count card) word a.sound).short

-- a refusal of the input
pub call_refused : {card weights word work answer : List ℕ} {r : Weighing} (n : ℕ) → n ≡ weighted_refusal card weights word (length work) → 0 < n → r ≡ refused_weighing n
    → Optimizes card weights word work work answer answer r
unfolding answered_sum
call_refused zero e h q = absurd (omega arith)
call_refused {card} {weights} {word} {answer = answer} (suc n) e h q = record {
  answers = ranked.call_refused (weighted_small _ _ _ _) (suc n) e h (ap (λ (v : Weighing). v.evaluation) q);
  its_sum = ap (λ (v : Weighing). v.sum) q ∙ ap (λ (k : ℕ). answered_sum k weights (best_by_weights card weights word) (length answer)) e;
}

-- accepted input: what the search answers is the call's answer
pub call_searched : {card weights word front frontAfter work workAfter answer answerAfter : List ℕ} {r : Weighing} → weighted_refusal card weights word (length work) ≡ 0 → length workAfter ≡ length work
    → Searched weights (best_by_weights card weights word) word front frontAfter answer answerAfter r → Optimizes card weights word work workAfter answer answerAfter r
call_searched ok w s = record { answers = ranked.call_searched (weighted_small _ _ _ _) ok w s.searched; its_sum = rw ok s.its_sum }
