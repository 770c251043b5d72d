-- What a call wrote, and when a second call answers the same.
use Rattle.std.specs.Prelude.{◌≡◌, ◌++◌, ◌*◌}
use Rattle.basics.specs.Words.{List, ℕ, take, drop}
use Rattle.machine.specs.declared.Pair.{Pair}
use Rattle.candidate.specs.declared.Evaluation.{Evaluation}
use Rattle.candidate.specs.Candidates.{pairs_of}

-- the candidate that a call wrote into its answer slice
abbrev pub answered_candidate : Evaluation → List ℕ → List Pair
answered_candidate r answer = pairs_of (take (2 * r.pairs) answer)

-- a second call answers what a first one answered: the same profile, pair count and word length; the same pairs fill the front of its answer slice,
-- whose other bytes keep their values
pub record SameAnswer (r : Evaluation) (answerAfter : List ℕ) (second : Evaluation) (secondAnswer secondAfter : List ℕ) : Type 0 where
  pub result : second ≡ r
  pub pairs : secondAfter ≡ take (2 * r.pairs) answerAfter ++ drop (2 * r.pairs) secondAnswer
