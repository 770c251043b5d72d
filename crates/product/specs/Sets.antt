-- Words heard only in part: a set of symbols, a 64-bit number, at each position.
use Rattle.std.specs.Prelude.{◌≡◌, ◌&&◌, ◌∷◌, ◌^◌}
use Rattle.basics.specs.Words.{Bool, true, false, List, [], map, Option, some, none, ℕ, ltb, all_of, those, joined, numbers_below, member}
use Rattle.machine.specs.declared.Pair.{Pair}
use Rattle.machine.specs.Machine.{Machine}
use Rattle.candidate.specs.Candidates.{IsCandidate}
use Rattle.product.specs.Best.{Contender, ProfileOrder, least_of, best_in, harmonic}

-- the word has one symbol from each set
unfoldable pub fits_sets : List ℕ → List ℕ → Bool
fits_sets [] [] = true
fits_sets [] (x ∷ word) = false
fits_sets (set ∷ sets) [] = false
fits_sets (set ∷ sets) (x ∷ word) = member set x && fits_sets sets word

-- a word as sets of one symbol each
abbrev pub singletons : List ℕ → List ℕ
singletons word = map (λ x. 2 ^ x) word

-- the sets are 64-bit numbers
abbrev pub are64_bits : List ℕ → Bool
are64_bits sets = all_of (λ set. ltb set (2 ^ 64)) sets

-- a list of pairs that is a complete candidate for a word with one symbol from each set
pub record IsCandidateOf (ms : List Machine) (sets : List ℕ) (c : List Pair) : Type 0 where
  pub word : List ℕ
  pub fits : fits_sets sets word ≡ true
  pub is : IsCandidate ms word c

-- the words with one symbol from each set
unfoldable pub words_from : List ℕ → List (List ℕ)
words_from [] = [] ∷ []
words_from (set ∷ sets) = joined (λ x. map (λ word. x ∷ word) (words_from sets)) (those (member set) (numbers_below 64))

-- what is there, as a list
abbrev pub found : Option Contender → List Contender
found none = []
found (some b) = b ∷ []

-- the best candidate over all words with one symbol from each set: the least of their best ones in the order of preference
unfoldable pub best_of_sets_in : ProfileOrder → List ℕ → List ℕ → Option Contender
best_of_sets_in better card sets = least_of better (joined (λ word. found (best_in better card word)) (words_from sets))

-- under a ranking
unfoldable pub best_of_sets : List ℕ → List ℕ → List ℕ → Option Contender
best_of_sets card ranking sets = best_of_sets_in (harmonic ranking) card sets
