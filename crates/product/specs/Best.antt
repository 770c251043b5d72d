-- The best candidate for a word: the order on candidates, and the least in that order.
use Rattle.std.specs.Prelude.{◌&&◌, ◌||◌, ◌∷◌, ◌+◌}
use Rattle.basics.specs.Words.{Bool, true, false, not, List, [], map, Option, some, none, ℕ, zero, suc, length, eqb, ltb, those, joined, numbers_below}
use Rattle.machine.specs.declared.Pair.{Pair}
use Rattle.machine.specs.Symbols.{is_pair}
use Rattle.machine.specs.Machine.{Machine}
use Rattle.ranking.specs.Harmony.{better}
use Rattle.ranking.specs.ByteStrings.{smaller}
use Rattle.card.specs.Layout.{symbol_count}
use Rattle.card.specs.Card.{machines_of}
use Rattle.candidate.specs.Candidates.{bytes_of, spelled, is_complete, profile_of}
use Rattle.product.specs.Nodes.{node_count}

-- a candidate with its profile
pub record Contender : Type 0 where
  pub candidate : List Pair
  pub profile : List ℕ

abbrev pub contender_of : List Machine → List Pair → Contender
contender_of ms c = record { candidate = c; profile = profile_of ms c }

-- of two candidates with equal profiles: fewer pairs; then the smaller byte string
unfoldable pub wins_tie : List Pair → List Pair → Bool
wins_tie c d = ltb (length c) (length d) || (eqb (length c) (length d) && smaller (bytes_of c) (bytes_of d))

-- an order on profiles, as a test: is the first better than the second? The second is then worse than the first
abbrev pub ProfileOrder : Type 0
ProfileOrder = List ℕ → List ℕ → Bool

-- the better profile in the order; where neither is better, fewest pairs; then the smallest byte string
unfoldable pub preferred : ProfileOrder → Contender → Contender → Bool
preferred better a b = better a.profile b.profile || (not (better b.profile a.profile) && wins_tie a.candidate b.candidate)

-- two words are the same
unfoldable pub same_word : List ℕ → List ℕ → Bool
same_word [] [] = true
same_word [] (y ∷ ys) = false
same_word (x ∷ xs) [] = false
same_word (x ∷ xs) (y ∷ ys) = eqb x y && same_word xs ys

-- the pairs over S symbols
unfoldable pub pairs_over : ℕ → List Pair
pairs_over S = those is_pair (joined (λ x. map (λ y. record { input = x; output = y }) (numbers_below (S + 1))) (numbers_below (S + 1)))

-- the lists of fewer than n of the pairs
unfoldable pub lists_below : ℕ → List Pair → List (List Pair)
lists_below zero ps = []
lists_below (suc n) ps = let shorter_lists = lists_below n ps in [] ∷ joined (λ p. map (λ c. p ∷ c) shorter_lists) ps

-- those of the lists that are complete candidates for the word, with their profiles
unfoldable pub contenders_among : List Machine → List ℕ → List (List Pair) → List Contender
contenders_among ms word [] = []
contenders_among ms word (c ∷ cs) =
    elim (same_word (spelled c) word && is_complete ms c) [ true ↦ contender_of ms c ∷ contenders_among ms word cs | false ↦ contenders_among ms word cs ]

-- the least in the order of preference
unfoldable pub least_of : ProfileOrder → List Contender → Option Contender
least_of better [] = none
least_of better (a ∷ rest) =
    elim (least_of better rest) [ none ↦ some a | some b ↦ elim (preferred better b a) [ true ↦ some b | false ↦ some a ] ]

-- the best among the candidates of fewer pairs than a bound
unfoldable pub best_below : ℕ → ℕ → List Machine → ProfileOrder → List ℕ → Option Contender
best_below bound S ms better word = least_of better (contenders_among ms word (lists_below bound (pairs_over S)))

-- the best candidate for a word, by machines over S symbols. That lists of as many pairs as nodes, or more, change nothing is a theorem
unfoldable pub best_of : ℕ → List Machine → ProfileOrder → List ℕ → Option Contender
best_of S ms better word = best_below (node_count ms (length word)) S ms better word

-- on a card, in an order on profiles
unfoldable pub best_in : ProfileOrder → List ℕ → List ℕ → Option Contender
best_in better card word = best_of (symbol_count card) (machines_of card) better word

-- the order of a ranking
abbrev pub harmonic : List ℕ → ProfileOrder
harmonic ranking = better ranking

-- the best candidate under a ranking
unfoldable pub best : List ℕ → List ℕ → List ℕ → Option Contender
best card ranking word = best_in (harmonic ranking) card word
