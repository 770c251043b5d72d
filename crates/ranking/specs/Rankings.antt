-- Rankings of K machines, by their numbers in the card, highest first.
use Rattle.std.specs.Prelude.{◌&&◌, ◌∷◌}
use Rattle.basics.specs.Words.{Bool, not, List, [], map, ℕ, zero, suc, length, eqb, leb, every_below, occurrences, those, joined, numbers_below}

-- K is 1 to 6
abbrev pub is_machine_count : ℕ → Bool
is_machine_count K = leb 1 K && leb K 6

-- K bytes, each of 0 to K−1 once
unfoldable pub is_ranking : ℕ → List ℕ → Bool
is_ranking K r = eqb (length r) K && every_below (λ m. eqb (occurrences m r) 1) K

-- the ways to rank n of the machines listed, in the order of byte strings where the machines are listed in order
unfoldable pub arrangements : ℕ → List ℕ → List (List ℕ)
arrangements zero ms = [] ∷ []
arrangements (suc n) ms = joined (λ m. map (λ r. m ∷ r) (arrangements n (those (λ x. not (eqb x m)) ms))) ms

-- the K! rankings of K machines, in the order of byte strings
abbrev pub rankings : ℕ → List (List ℕ)
rankings K = arrangements K (numbers_below K)
