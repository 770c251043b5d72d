-- When a candidate is the best for a word, among candidates of any length; and when an answer is it.
use Rattle.std.specs.Prelude.{◌≡◌, ◌≢◌, ◌↔◌, ◌<◌, ◌≤◌}
use Rattle.basics.specs.Words.{true, false, List, Option, some, none, ℕ, length}
use Rattle.machine.specs.declared.Pair.{Pair}
use Rattle.machine.specs.Machine.{Machine}
use Rattle.ranking.specs.Harmony.{worse}
use Rattle.candidate.specs.Candidates.{bytes_of, profile_of, IsCandidate}
use Rattle.product.specs.Sets.{IsCandidateOf}
use Rattle.product.specs.Best.{Contender, contender_of, ProfileOrder}
use Rattle.ranking.specs.ByteStrings.{smaller}
use Rattle.product.specs.Prices.{Alike}

-- c is one of the candidates meant, those for a word or for the words of sets, and beats every other one, however long
pub record IsBestBy (beats : List Pair → List Pair → Type 0) (Meant : List Pair → Type 0) (c : List Pair) : Type 0 where
  pub candidate : Meant c
  pub rivals : (d : List Pair) → Meant d → d ≢ c → beats c d

-- ---- in an order on profiles

-- a beats b: it has the better profile; or neither has, and a has fewer pairs; or neither has, and of as many pairs the smaller byte string
pub data BeatsIn (better : ProfileOrder) (a b : Contender) : Type 0 where
  by_profile : better a.profile b.profile ≡ true → BeatsIn better a b
  by_pairs : Alike better a.profile b.profile → length a.candidate < length b.candidate → BeatsIn better a b
  by_bytes : Alike better a.profile b.profile → length a.candidate ≡ length b.candidate → smaller (bytes_of a.candidate) (bytes_of b.candidate) ≡ true → BeatsIn better a b

-- on machines
abbrev pub BeatsOn : ProfileOrder → List Machine → List Pair → List Pair → Type 0
BeatsOn better ms c d = BeatsIn better (contender_of ms c) (contender_of ms d)

abbrev pub IsBestIn : ProfileOrder → List Machine → (List Pair → Type 0) → List Pair → Type 0
IsBestIn better ms Meant c = IsBestBy (BeatsOn better ms) Meant c

-- of the candidates meant none has a better profile than c, and none of as good a profile has fewer pairs: c is beaten by its bytes at most
pub record IsUnbeatenIn (better : ProfileOrder) (ms : List Machine) (Meant : List Pair → Type 0) (c : List Pair) : Type 0 where
  pub candidate : Meant c
  pub none_better : (d : List Pair) → Meant d → better (profile_of ms d) (profile_of ms c) ≡ false
  pub none_shorter : (d : List Pair) → Meant d → Alike better (profile_of ms d) (profile_of ms c) → length c ≤ length d

-- ---- under a ranking, where equal in harmony is equal

-- c beats d: d has a worse profile; or an equal profile and more pairs; or an equal profile, as many pairs and a larger byte string
pub data Beats (ranking : List ℕ) (ms : List Machine) (c d : List Pair) : Type 0 where
  better_profile : worse ranking (profile_of ms d) (profile_of ms c) ≡ true → Beats ranking ms c d
  fewer_pairs : profile_of ms d ≡ profile_of ms c → length c < length d → Beats ranking ms c d
  smaller_bytes : profile_of ms d ≡ profile_of ms c → length d ≡ length c → smaller (bytes_of c) (bytes_of d) ≡ true → Beats ranking ms c d

-- of the candidates for a word, and of those for a word with one symbol from each set
abbrev pub IsBestCandidate : (ranking : List ℕ) (ms : List Machine) (word : List ℕ) → List Pair → Type 0
IsBestCandidate ranking ms word c = IsBestBy (Beats ranking ms) (IsCandidate ms word) c

abbrev pub IsBestOfSets : (ranking : List ℕ) (ms : List Machine) (sets : List ℕ) → List Pair → Type 0
IsBestOfSets ranking ms sets c = IsBestBy (Beats ranking ms) (IsCandidateOf ms sets) c

-- ---- an answer is the best of the candidates meant, of any length, by what it is for one to beat another

pub record BestOf (ms : List Machine) (beats : List Pair → List Pair → Type 0) (Meant : List Pair → Type 0) (answer : Option Contender) : Type 0 where
  -- there is none exactly when no list of pairs, however long, is such a candidate
  pub none_exactly : (answer ≡ none) ↔ ((c : List Pair) → ¬ (Meant c))
  -- otherwise it is the best, and it comes with its profile
  pub is_best : (b : Contender) → answer ≡ some b → IsBestBy beats Meant b.candidate
  pub its_profile : (b : Contender) → answer ≡ some b → b.profile ≡ profile_of ms b.candidate
  -- and no other candidate is
  pub only_it : (c : List Pair) → IsBestBy beats Meant c → answer ≡ some (contender_of ms c)
