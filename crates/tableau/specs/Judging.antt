-- What judging a tableau answers.
use Rattle.std.specs.Prelude.{Result, Ok, Err, ◌∷◌}
use Rattle.basics.specs.Words.{Bool, false, List, [], Option, some, none, ℕ}
use Rattle.refusals.specs.declared.Refusal.{Refusal}
use Rattle.refusals.specs.Refusals.{number_of, refuse, first_of, unless_refused}
use Rattle.card.specs.Layout.{machine_count}
use Rattle.candidate.specs.Evaluating.{profile_with}
use Rattle.product.specs.Best.{Contender, best}
use Rattle.product.specs.Optimizing.{input_refusal}
use Rattle.rows.specs.declared.Verdict.{Verdict}
use Rattle.rows.specs.declared.Verdict.TheVariants.{Right, AnotherRow, NotInTable}
use Rattle.tableau.specs.declared.Judged.{Judged}
use Rattle.tableau.specs.Tableau.{counts_of, every_row, sound_tableau}
pub use Rattle.rows.specs.Judging.{counts_are_profile, otherwise, right_or}
unfoldable pub use Rattle.rows.specs.Judging.{is_for_word, same_counts, first_row, verdict_of}

-- a row has the best candidate's profile. That these are the rows that win is the theorem
abbrev pub has_profile_of : Option Contender → List ℕ → Bool
has_profile_of none row = false
has_profile_of (some b) row = same_counts (counts_of row) (profile_with b.profile).counts

-- 1 to 9 as the optimizer's; then 19, 20, 21, each for all rows before the next
unfoldable pub judging_refusal : List ℕ → List ℕ → List ℕ → ℕ → List ℕ → ℕ
judging_refusal card ranking word room tableau =
    first_of
    (input_refusal card ranking word room
    ∷ refuse 19 (sound_tableau (machine_count card) tableau)
    ∷ refuse 20 (every_row (is_for_word card word) tableau)
    ∷ refuse 21 (every_row (counts_are_profile card) tableau)
    ∷ [])

-- the answer in numbers: 1 right, 2 another row, with the row that wins, 3 not in the table
abbrev pub verdict_numbers : Verdict → Judged
verdict_numbers Right = record { number = 0; verdict = 1; row = 0 }
verdict_numbers (AnotherRow i) = record { number = 0; verdict = 2; row = i }
verdict_numbers NotInTable = record { number = 0; verdict = 3; row = 0 }

abbrev pub refused_judging : ℕ → Judged
refused_judging n = record { number = n; verdict = 0; row = 0 }

abbrev pub judged_of : Result Verdict Refusal → Judged
judged_of (Ok v) = verdict_numbers v
judged_of (Err r) = refused_judging (number_of r)

-- the whole answer
unfoldable pub judging : List ℕ → List ℕ → List ℕ → ℕ → List ℕ → Judged
judging card ranking word room tableau =
    unless_refused (judging_refusal card ranking word room tableau)
    (verdict_numbers (verdict_of (has_profile_of (best card ranking word)) tableau))
    refused_judging
