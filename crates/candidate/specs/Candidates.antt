-- Candidates: lists of pairs, what they spell, when they are complete, their profiles.
use Rattle.std.specs.Prelude.{◌≡◌, ◌∷◌, ◌+◌}
use Rattle.basics.specs.Words.{Bool, true, false, List, [], map, Option, some, none, ℕ, get_or, eqb, all_of}
use Rattle.machine.specs.declared.Pair.{Pair}
use Rattle.machine.specs.Symbols.{empty_symbol, is_pair}
use Rattle.machine.specs.Machine.{Machine, start_state, step_of, ending_of}

-- the pair whose two bytes start at a place
abbrev pub pair_at : List ℕ → ℕ → Pair
pair_at l at = record { input = get_or l at 0; output = get_or l (at + 1) 0 }

-- the pairs of a byte string, in before out; an odd byte at the end is no pair
unfoldable pub pairs_of : List ℕ → List Pair
pairs_of [] = []
pairs_of (x ∷ []) = []
pairs_of (x ∷ y ∷ rest) = record { input = x; output = y } ∷ pairs_of rest

-- a candidate's byte string: its pairs' bytes, one pair after another
unfoldable pub bytes_of : List Pair → List ℕ
bytes_of [] = []
bytes_of (p ∷ ps) = p.input ∷ p.output ∷ bytes_of ps

-- the word that a candidate spells: its non-zero in bytes, in order
unfoldable pub spelled : List Pair → List ℕ
spelled [] = []
spelled (p ∷ ps) = elim (eqb p.input empty_symbol) [ true ↦ spelled ps | false ↦ p.input ∷ spelled ps ]

abbrev pub add_marks : ℕ → Option ℕ → Option ℕ
add_marks m none = none
add_marks m (some n) = some (m + n)

-- a machine takes every pair in turn and ends in a final state: the marks of the arcs taken and those for ending, added
unfoldable pub marks_from : Machine → ℕ → List Pair → Option ℕ
marks_from m s [] = ending_of m s
marks_from m s (p ∷ ps) = elim (step_of m s p) [ none ↦ none | some r ↦ add_marks r.1 (marks_from m r.0 ps) ]

abbrev pub marks_of : List Pair → Machine → Option ℕ
marks_of c m = marks_from m start_state c

abbrev pub is_some : {A : Type 0} → Option A → Bool
is_some none = false
is_some (some a) = true

-- complete: every machine takes every pair in turn and ends in a final state
unfoldable pub is_complete : List Machine → List Pair → Bool
is_complete ms c = all_of (λ m. is_some (marks_of c m)) ms

abbrev pub count_of : Option ℕ → ℕ
count_of none = 0
count_of (some n) = n

-- a complete candidate's profile: one count per machine, in card order
unfoldable pub profile_of : List Machine → List Pair → List ℕ
profile_of ms c = map (λ m. count_of (marks_of c m)) ms

-- a candidate for a word that is complete on every machine: a list of pairs, of any length
pub record IsCandidate (ms : List Machine) (word : List ℕ) (c : List Pair) : Type 0 where
  pub pairs : all_of is_pair c ≡ true
  pub spells : spelled c ≡ word
  pub complete : is_complete ms c ≡ true
