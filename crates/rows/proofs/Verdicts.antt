-- How the verdict is found: the claimed row first, then row by row. Assumes nothing.
use Rattle.std.specs.Prelude.{◌≡◌, ◌+◌, ◌<◌}
use Rattle.basics.specs.Words.{refl, Bool, true, false, List, Option, none, ℕ, first_that, numbers_below}
use Rattle.ranking.specs.Lemmas.Searches.{count_on, count_found}
use Rattle.rows.specs.declared.Verdict.TheVariants.{Right, AnotherRow, NotInTable}
use Rattle.rows.specs.Tableau.{row_count, claimed_row, row_of}
use Rattle.rows.specs.Judging.{first_row, verdict_of}

-- the first of the rows before row n that wins
abbrev pub first_before : (List ℕ → Bool) → List ℕ → ℕ → Option ℕ
first_before wins tableau n = first_that (λ i. wins (row_of tableau i)) (numbers_below n)

module _ (wins : List ℕ → Bool) (tableau : List ℕ) where
  pub none_start : first_before wins tableau 0 ≡ none
  unfolding numbers_below first_that
  none_start = refl

  pub none_next : (n : ℕ) → first_before wins tableau n ≡ none → wins (row_of tableau n) ≡ false → first_before wins tableau (n + 1) ≡ none
  none_next n h f = count_on (λ i. wins (row_of tableau i)) n h f

  pub claim_wins : wins (row_of tableau (claimed_row tableau)) ≡ true → verdict_of wins tableau ≡ Right
  unfolding verdict_of
  claim_wins t = rw t

  module _ (f : wins (row_of tableau (claimed_row tableau)) ≡ false) where
    pub later_wins : (n : ℕ) → n < row_count tableau → first_before wins tableau n ≡ none → wins (row_of tableau n) ≡ true → verdict_of wins tableau ≡ AnotherRow n
    unfolding verdict_of first_row
    later_wins n h z t = rw (f, count_found (λ i. wins (row_of tableau i)) (row_count tableau) n h z t)

    pub no_row_wins : first_before wins tableau (row_count tableau) ≡ none → verdict_of wins tableau ≡ NotInTable
    unfolding verdict_of first_row
    no_row_wins z = rw (f, z)
