-- The check of the layout, test by test. Assumes nothing.
use Rattle.std.specs.Prelude.{◌≡◌, ◌<◌, ◌≤◌}
use Rattle.basics.proofs.Words.{true, false, List, ℕ, length, le-leb, lt-leb}
use Rattle.layout.specs.Layout.{laid_out}
use Rattle.rows.specs.Tableau.{row_count, every_row, sound_row, sound_head, sound_tableau}

module _ (K : ℕ) (tableau : List ℕ) where
  pub no_head : length tableau < 2 → sound_tableau K tableau ≡ false
  unfolding sound_tableau
  no_head h = rw (lt-leb 2 (length tableau) h)

  module _ (two : 2 ≤ length tableau) where
    pub bad_head : sound_head tableau ≡ false → sound_tableau K tableau ≡ false
    unfolding sound_tableau
    bad_head f = rw (le-leb 2 (length tableau) two, f)

    pub bad_layout : sound_head tableau ≡ true → laid_out (row_count tableau) tableau ≡ false → sound_tableau K tableau ≡ false
    unfolding sound_tableau
    bad_layout t f = rw (le-leb 2 (length tableau) two, t, f)

    pub rows_decide : sound_head tableau ≡ true → laid_out (row_count tableau) tableau ≡ true → sound_tableau K tableau ≡ every_row (sound_row K) tableau
    unfolding sound_tableau
    rows_decide t l = rw (le-leb 2 (length tableau) two, t, l)
