-- What can be asked for, a word or the words of sets: which lists of pairs are meant, and the best of them, in every order on profiles.
use Rattle.std.specs.Prelude.{◌≡◌}
use Rattle.basics.specs.Words.{true, List, ℕ}
use Rattle.candidate.specs.Candidates.{IsCandidate}
use Rattle.product.specs.Best.{best_in}
use Rattle.product.specs.Sets.{are64_bits, IsCandidateOf, best_of_sets_in}
use Rattle.product.proofs.BestTheorem.{best_in_is_best_of_all}
use Rattle.product.proofs.SetsTheorem.{best_in_is_best_of_all_words}
use Rattle.product.specs.Searches.{Searches}

pub of_word : (word : List ℕ) → Searches (λ ms. IsCandidate ms word) (λ better card. best_in better card word)
of_word word = record {
  candidate = λ h. (word, h);
  complete_too = λ h t. record { pairs = h.pairs; spells = h.spells; complete = t };
  best_of_all = λ agrees card ok. best_in_is_best_of_all agrees card word ok;
}

pub of_sets : (sets : List ℕ) → are64_bits sets ≡ true → Searches (λ ms. IsCandidateOf ms sets) (λ better card. best_of_sets_in better card sets)
of_sets sets bits = record {
  candidate = λ h. (h.word, h.is);
  complete_too = λ h t. record { word = h.word; fits = h.fits; is = record { pairs = h.is.pairs; spells = h.is.spells; complete = t } };
  best_of_all = λ agrees card ok. best_in_is_best_of_all_words agrees card sets ok bits;
}
