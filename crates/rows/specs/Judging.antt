-- What is asked of each row, and the verdict for the rows that win.
use Rattle.std.specs.Prelude.{◌&&◌}
use Rattle.basics.specs.Words.{Bool, true, false, List, Option, some, none, ℕ, get_or, eqb, every_below, first_that, numbers_below}
use Rattle.card.specs.Layout.{symbol_count}
use Rattle.card.specs.Card.{machines_of}
use Rattle.candidate.specs.Candidates.{pairs_of, spelled, is_complete, profile_of}
use Rattle.candidate.specs.Evaluating.{sound_candidate, profile_with}
use Rattle.product.specs.Best.{same_word}
use Rattle.rows.specs.declared.Verdict.{Verdict}
use Rattle.rows.specs.declared.Verdict.TheVariants.{Right, AnotherRow, NotInTable}
use Rattle.rows.specs.Tableau.{row_count, claimed_row, row_of, counts_of, candidate_of}

-- a row's candidate meets neither 13 nor 14, and spells the word
unfoldable pub is_for_word : List ℕ → List ℕ → List ℕ → Bool
is_for_word card word row =
    sound_candidate (symbol_count card) (candidate_of row)
    && is_complete (machines_of card) (pairs_of (candidate_of row))
    && same_word (spelled (pairs_of (candidate_of row))) word

-- six counts are six others
unfoldable pub same_counts : List ℕ → List ℕ → Bool
same_counts v w = every_below (λ m. eqb (get_or v m 0) (get_or w m 0)) 6

-- a row's counts are its candidate's profile
abbrev pub counts_are_profile : List ℕ → List ℕ → Bool
counts_are_profile card row = same_counts (counts_of row) (profile_with (profile_of (machines_of card) (pairs_of (candidate_of row)))).counts

-- the first row that passes
unfoldable pub first_row : (List ℕ → Bool) → List ℕ → Option ℕ
first_row f tableau = first_that (λ i. f (row_of tableau i)) (numbers_below (row_count tableau))

-- where the claimed row does not win: the first row that does, or that none does
abbrev pub otherwise : Option ℕ → Verdict
otherwise none = NotInTable
otherwise (some i) = AnotherRow i

abbrev pub right_or : Bool → Verdict → Verdict
right_or true v = Right
right_or false v = v

-- the verdict, for the rows that win
unfoldable pub verdict_of : (List ℕ → Bool) → List ℕ → Verdict
verdict_of wins tableau = right_or (wins (row_of tableau (claimed_row tableau))) (otherwise (first_row wins tableau))
