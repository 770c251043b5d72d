-- What it is to win.
use Rattle.std.specs.Prelude.{◌≡◌}
use Rattle.basics.specs.Words.{true, List, ℕ}
use Rattle.machine.specs.declared.Pair.{Pair}
use Rattle.machine.specs.Machine.{Machine}
use Rattle.ranking.specs.Harmony.{better}
use Rattle.candidate.specs.Candidates.{profile_of, IsCandidate}

-- no complete candidate for the word, however long, has a better profile than c
abbrev pub NoneBetter : List ℕ → List Machine → List ℕ → List Pair → Type 0
NoneBetter ranking ms word c = (d : List Pair) → IsCandidate ms word d → ¬ (better ranking (profile_of ms d) (profile_of ms c) ≡ true)
