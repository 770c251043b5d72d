-- What the search for a word's sets of one symbol each says of the word. Assumes nothing.
use Rattle.std.specs.Prelude.{◌≡◌, ◌≤◌}
use Rattle.basics.specs.Words.{◌∙◌, ap, true, List, Option, ℕ, arith, length, ltb, all_of}
use Rattle.refusals.specs.Refusals.{unless_refused}
use Rattle.card.specs.Layout.{symbol_count}
use Rattle.candidate.specs.declared.Evaluation.{Evaluation}
use Rattle.candidate.specs.Evaluating.{refused}
use Rattle.product.specs.Best.{Contender, best}
use Rattle.product.specs.Sets.{singletons, best_of_sets}
use Rattle.product.specs.Answering.{call_refusal, answered}
use Rattle.product.proofs.SetsTheorem.{best_of_one_word}
use Rattle.product.specs.OneSymbolEach.{evaluated_alike}
use Rattle.product.specs.Laws.Words.{accepted_word}
use Rattle.product.specs.Laws.Sets.{as_many}
use Rattle.product.specs.Laws.BestOfSets.{singletons_64}
use Rattle.input.proofs.Words.{all_small, of_sets}
use Rattle.readout.specs.Searching.{SetsPre, SearchPre, Searched}

-- the length answered is the word's
pub length_alike : (word : List ℕ) {b : Option Contender} {work after answer answerAfter : List ℕ} {r : Evaluation} → Searched b (singletons word) work after answer answerAfter r → Searched b word work after answer answerAfter r
unfolding answered
length_alike word {b} {answer = answer} S = record {
  result = S.result ∙ ap (λ (e : Evaluation). unless_refused (call_refusal 0 b (length answer)) e refused) (evaluated_alike b word);
  answer_slice = S.answer_slice;
  work_length = S.work_length;
}

module _ {card ranking word work : List ℕ} {size : ℕ} (pre : SearchPre card ranking word work size) where
  pub word_small : all_of (λ x. ltb x 64) word ≡ true
  word_small = all_small card word pre.accepted pre.sound

  pub short : length word ≤ 24
  short = (accepted_word (symbol_count card) word pre.sound).short

  own_sets : SetsPre card ranking (singletons word) work size
  own_sets = record {
    setting = record { accepted = pre.accepted; few = omega (arith, as_many word, short); symbols = of_sets card word pre.accepted pre.sound; states = pre.states };
    ranks = pre.ranks;
    bits = singletons_64 word word_small;
    room = rw (as_many word) pre.room;
  }

  -- the search for its sets is the search for the word
  module _ (sets : List ℕ) (are : sets ≡ singletons word) where
    pub sets_pre : SetsPre card ranking sets work size
    sets_pre = rw are own_sets

    pub word_searched : {after answer answerAfter : List ℕ} {r : Evaluation} → Searched (best_of_sets card ranking sets) sets work after answer answerAfter r → Searched (best card ranking word) word work after answer answerAfter r
    word_searched {after} {answer} {answerAfter} {r} T = length_alike word the_word
      where
        the_word : Searched (best card ranking word) (singletons word) work after answer answerAfter r
        the_word = rw (are, best_of_one_word card ranking word pre.accepted word_small) at T
