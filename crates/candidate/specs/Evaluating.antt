-- Evaluation of a candidate, given as bytes, on a card.
use Rattle.std.specs.Prelude.{Result, Ok, Err, Option as Answer, Some, None, ◌&&◌, ◌∷◌, ◌++◌, ◌-◌, ◌*◌, ◌%◌}
use Rattle.basics.specs.Words.{Bool, List, [], Option, some, none, ℕ, length, replicate, eqb, leb, all_of}
use Rattle.refusals.specs.declared.Refusal.{Refusal}
use Rattle.refusals.specs.Refusals.{number_of, refuse, first_of, unless_refused}
use Rattle.machine.specs.declared.Pair.{Pair}
use Rattle.machine.specs.Symbols.{is_pair, within_symbols}
use Rattle.ranking.specs.declared.Profile.{Profile}
use Rattle.ranking.specs.Profiles.{zero_profile}
use Rattle.card.specs.Layout.{symbol_count}
use Rattle.card.specs.Card.{card_refusal, machines_of}
use Rattle.candidate.specs.declared.Evaluated.{Evaluated}
use Rattle.candidate.specs.declared.Evaluation.{Evaluation}
use Rattle.candidate.specs.Candidates.{pairs_of, spelled, is_complete, profile_of}

-- what the code answers of one machine and a candidate
abbrev pub marked : Answer ℕ → Option ℕ
marked (Some n) = some n
marked None = none

-- not 0:0, and no symbol over S
abbrev pub sound_pair : ℕ → Pair → Bool
sound_pair S p = is_pair p && within_symbols S p

-- even in length, at most 3,199 pairs, each of them sound
unfoldable pub sound_candidate : ℕ → List ℕ → Bool
sound_candidate S bytes =
    eqb (length bytes % 2) 0 && leb (length bytes) (2 * 3199) && all_of (sound_pair S) (pairs_of bytes)

-- counts as a profile: unused places 0
abbrev pub profile_with : List ℕ → Profile
profile_with counts = record { counts = counts ++ replicate (6 - length counts) 0 }

-- a refusal: its number, every other field 0
abbrev pub refused : ℕ → Evaluation
refused n = record { number = n; profile = zero_profile; pairs = 0; word_length = 0 }

abbrev pub as_evaluation : Result Evaluated Refusal → Evaluation
as_evaluation (Ok e) = record { number = 0; profile = e.profile; pairs = e.pairs; word_length = e.word_length }
as_evaluation (Err r) = refused (number_of r)

unfoldable pub evaluating : List ℕ → List ℕ → Evaluation
evaluating card bytes =
    unless_refused
    (first_of (card_refusal card ∷ refuse 13 (sound_candidate (symbol_count card) bytes) ∷ refuse 14 (is_complete (machines_of card) (pairs_of bytes)) ∷ []))
    (record { number = 0; profile = profile_with (profile_of (machines_of card) (pairs_of bytes)); pairs = length (pairs_of bytes); word_length = length (spelled (pairs_of bytes)) })
    refused
