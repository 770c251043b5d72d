-- Refusals by their numbers in the refusal table; 0 is accepted.
use Rattle.std.specs.Prelude.{Result, Ok, Err, Bool, true, false, List, [], ◌∷◌, ℕ, zero, suc}
use Rattle.refusals.specs.declared.Refusal.{Refusal}
use Rattle.refusals.specs.declared.Refusal.TheVariants.{Counts, Layout, PartLength, Field, Clash, Product, Ranking, Word, Work, NoCandidate, Answer, Candidate, NotComplete, Conditions, NoRanking, Parts, Target, Tableau, RowCandidate, RowCounts, Line, RowCount, Presence, Sets, Weights, Machines, JoinedSize}

-- the table; 11 was struck
abbrev pub number_of : Refusal → ℕ
number_of Counts = 1
number_of Layout = 2
number_of PartLength = 3
number_of Field = 4
number_of Clash = 5
number_of Product = 6
number_of Ranking = 7
number_of Word = 8
number_of Work = 9
number_of NoCandidate = 10
number_of Answer = 12
number_of Candidate = 13
number_of NotComplete = 14
number_of Conditions = 15
number_of NoRanking = 16
number_of Parts = 17
number_of Target = 18
number_of Tableau = 19
number_of RowCandidate = 20
number_of RowCounts = 21
number_of Line = 22
number_of RowCount = 23
number_of Presence = 24
number_of Sets = 25
number_of Weights = 26
number_of Machines = 27
number_of JoinedSize = 28

-- a check's number: 0 where it passed
abbrev pub checked_number : {A : Type 0} → Result A Refusal → ℕ
checked_number (Ok a) = 0
checked_number (Err r) = number_of r

-- refusal n, unless the test passes
abbrev pub refuse : ℕ → Bool → ℕ
refuse n true = 0
refuse n false = n

-- the first refusal met
abbrev pub first_of : List ℕ → ℕ
first_of [] = 0
first_of (zero ∷ ns) = first_of ns
first_of (suc n ∷ ns) = suc n

-- what is answered where nothing is refused, and what a refusal's number answers
abbrev pub unless_refused : {A : Type 0} → ℕ → A → (ℕ → A) → A
unless_refused zero accepted refused = accepted
unless_refused (suc n) accepted refused = refused (suc n)
