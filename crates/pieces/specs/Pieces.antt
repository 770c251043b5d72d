-- What is printed for the pieces of an input, and what a piece leaves.
use Rattle.std.specs.Prelude.{◌≡◌, ◌∷◌, ◌++◌, ◌≤◌}
use Rattle.basics.specs.Words.{Bool, true, false, List, [], ℕ, take}
use Rattle.lines.specs.Taking.{ended_lines, held_after, last_line}
use Rattle.tally.specs.declared.Tally.{Tally}
use Rattle.lesson.specs.Tally.{lines_tally, lines_text, closing_text, Fits}

-- what bytes of the input leave that are read: the tally after the lines that end in them, and in the line's buffer, where the input
-- goes on, what is held of the line that goes on
pub record Answers (card held read : List ℕ) (tally : Tally) (line : List ℕ) (n : ℕ) (after : Tally) (written : Bool) : Type 0 where
  pub few : n ≤ 201
  pub fits : Fits after
  pub lines_counted : written ≡ true → after ≡ lines_tally card tally (ended_lines held read)
  pub bytes : written ≡ true → after.past ≡ false → take n line ≡ held_after held read

-- what is printed for pieces in turn: for each line that ends in a piece, from what is held of it; after the last piece for the
-- line that is held, if there is one, and then the closing lines
unfoldable pub printed_pieces : List ℕ → Tally → List ℕ → List (List ℕ) → List ℕ
printed_pieces card t held [] = lines_text card t (last_line held) ++ closing_text card (lines_tally card t (last_line held))
printed_pieces card t held (piece ∷ pieces) =
    lines_text card t (ended_lines held piece) ++ printed_pieces card (lines_tally card t (ended_lines held piece)) (held_after held piece) pieces
