-- The layout of a tableau.
pub use Rattle.rows.specs.Tableau.{row_count, claimed_row, row_of, counts_of, candidate_of, every_row, sound_head}
unfoldable pub use Rattle.rows.specs.Tableau.{sound_row, sound_tableau}
