-- Scoring a candidate: what it asks of a machine and of the pairs, whether the candidate is complete, and its profile where it is.
use Rattle.std.specs.Prelude.{Result, IfOk, ◌≡◌, ◌%◌, ◌<◌, ◌≤◌}
use Rattle.basics.specs.Words.{true, List, ℕ, length, all_of}
use Rattle.refusals.specs.Refusals.{refuse, checked_number}
use Rattle.machine.specs.declared.Pair.{Pair}
use Rattle.machine.specs.Machine.{Machine}
use Rattle.machine.specs.Part.{part_refusal}
use Rattle.refusals.specs.declared.Refusal.{Refusal}
use Rattle.ranking.specs.declared.Profile.{Profile}
use Rattle.candidate.specs.Candidates.{pairs_of, is_complete, profile_of}
use Rattle.candidate.specs.Evaluating.{sound_pair, profile_with}

-- an accepted machine, and at most 3,199 pairs of its symbols, however many these are
pub record RunPre (part candidate : List ℕ) : Type 0 where
  pub symbols : ℕ
  pub few : symbols < 64
  pub accepted : part_refusal symbols part ≡ 0
  pub even : length candidate % 2 ≡ 0
  pub short : length candidate ≤ 6398
  pub sound : all_of (sound_pair symbols) (pairs_of candidate) ≡ true

pub record Scores (ms : List Machine) (c : List Pair) (r : Result Profile Refusal) : Type 0 where
  pub checked : checked_number r ≡ refuse 14 (is_complete ms c)
  pub profile : IfOk r (λ p. p ≡ profile_with (profile_of ms c))
