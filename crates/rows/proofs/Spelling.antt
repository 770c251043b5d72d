-- How a candidate's word is compared with a word, from a place in each. Assumes nothing.
use Rattle.std.specs.Prelude.{◌≡◌, ◌∷◌, ◌+◌, ◌<◌, ◌≤◌}
use Rattle.basics.proofs.Words.{sym, ap, Bool, false, List, [], ℕ, arith, length, get_or, drop, leb, dec_lt, eq-eqb, ne_eqb, le-leb, lt-leb, left_next, left_none}
use Rattle.machine.specs.Symbols.{empty_symbol}
use Rattle.candidate.specs.Candidates.{pairs_of, spelled}
use Rattle.product.specs.Best.{same_word}
use Rattle.candidate.specs.Laws.Pairs.{pairs_next, pairs_end}

-- what is left of the word that the candidate spells, and of the word
abbrev pub rest_same : List ℕ → List ℕ → ℕ → ℕ → Bool
rest_same candidate word at place = same_word (spelled (pairs_of (drop at candidate))) (drop place word)

module _ (l : List ℕ) (at : ℕ) (h : at + 2 ≤ length l) where
  -- an insertion spells nothing
  inserted : get_or l at 0 ≡ empty_symbol → spelled (pairs_of (drop at l)) ≡ spelled (pairs_of (drop (at + 2) l))
  unfolding spelled
  inserted e = rw (pairs_next l at h, eq-eqb (get_or l at 0) empty_symbol e, spelled)

  symbol_spelled : (get_or l at 0 ≡ empty_symbol → ⊥) → spelled (pairs_of (drop at l)) ≡ get_or l at 0 ∷ spelled (pairs_of (drop (at + 2) l))
  unfolding spelled
  symbol_spelled n = rw (pairs_next l at h, ne_eqb (get_or l at 0) empty_symbol n, spelled)

  module _ (word : List ℕ) (place : ℕ) where
    pub same_inserted : get_or l at 0 ≡ empty_symbol → rest_same l word (at + 2) place ≡ rest_same l word at place
    same_inserted e = ap (λ (s : List ℕ). same_word s (drop place word)) (sym (inserted e))

    pub same_symbol : (get_or l at 0 ≡ empty_symbol → ⊥) → place < length word → get_or l at 0 ≡ get_or word place 0 → rest_same l word (at + 2) (place + 1) ≡ rest_same l word at place
    unfolding same_word
    same_symbol n k e = rw (symbol_spelled n, left_next word place k, eq-eqb (get_or l at 0) (get_or word place 0) e)

    pub other_symbol : (get_or l at 0 ≡ empty_symbol → ⊥) → place < length word → (get_or l at 0 ≡ get_or word place 0 → ⊥) → rest_same l word at place ≡ false
    unfolding same_word
    other_symbol n k e = rw (symbol_spelled n, left_next word place k, ne_eqb (get_or l at 0) (get_or word place 0) e)

    pub too_long : (get_or l at 0 ≡ empty_symbol → ⊥) → length word ≤ place → rest_same l word at place ≡ false
    unfolding same_word
    too_long n k = rw (symbol_spelled n, left_none word place k)

-- at the candidate's end the word has to end too
module _ (word : List ℕ) (place : ℕ) where
  goes_on : place < length word → same_word [] (drop place word) ≡ leb (length word) place
  unfolding same_word
  goes_on q = rw (left_next word place q, lt-leb (length word) place q)

  ends : length word ≤ place → same_word [] (drop place word) ≡ leb (length word) place
  unfolding same_word
  ends q = rw (left_none word place q, le-leb (length word) place q)

pub same_end : (l word : List ℕ) (at place : ℕ) → length l ≤ at → place ≤ length word → rest_same l word at place ≡ leb (length word) place
unfolding spelled
same_end l word at place h k = rw (pairs_end l at h) (go (dec_lt place (length word)))
  where
    go : Dec (place < length word) → same_word [] (drop place word) ≡ leb (length word) place
    go (yes q) = goes_on word place q
    go (no q) = ends word place (omega arith)
