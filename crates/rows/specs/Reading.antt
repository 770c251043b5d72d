-- What the functions that read rows ask of a tableau and of a row.
use Rattle.std.specs.Prelude.{◌≡◌, ◌<◌, ◌≤◌}
use Rattle.basics.specs.Words.{true, List, ℕ, length}
use Rattle.layout.specs.LaidOut.{LaidOut}
use Rattle.card.specs.Layout.{symbol_count}
use Rattle.card.specs.Card.{machines_of}
use Rattle.candidate.specs.Candidates.{pairs_of, is_complete}
use Rattle.candidate.specs.Evaluating.{sound_candidate}
use Rattle.rows.specs.Tableau.{row_count, claimed_row, row_of, candidate_of}

-- at most 32 rows that are laid out, each with its counts; the claimed one is among them
pub record Readable (tableau : List ℕ) : Type 0 where
  pub two : 2 ≤ length tableau
  pub few_rows : row_count tableau ≤ 32
  pub claimed : claimed_row tableau < row_count tableau
  pub layout : LaidOut (row_count tableau) tableau
  pub counts : (i : ℕ) → i < row_count tableau → 12 ≤ length (row_of tableau i)

-- a row's candidate meets neither 13 nor 14
pub record CompleteRow (card row : List ℕ) : Type 0 where
  pub sound : sound_candidate (symbol_count card) (candidate_of row) ≡ true
  pub complete : is_complete (machines_of card) (pairs_of (candidate_of row)) ≡ true
