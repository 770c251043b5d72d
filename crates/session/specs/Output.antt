-- What the program prints for an input.
use Rattle.std.specs.Prelude.{◌≡◌, ◌∷◌, ◌++◌, ◌+◌, ◌<◌, ◌≤◌}
use Rattle.basics.specs.Words.{Bool, not, List, [], map, Option, some, none, ℕ, length, get_or, take, drop, joined, those, numbers_below}
use Rattle.candidate.specs.Candidates.{is_some}
use Rattle.lines.specs.Input.{lines_of}
use Rattle.lines.specs.Taking.{ended_lines, held_after}
use Rattle.writing.specs.Writing.{refused_line, closing_lines}
use Rattle.tally.specs.declared.Tally.{Tally}
use Rattle.lesson.specs.Printed.{printed}
use Rattle.lesson.specs.Tally.{line_counts, lines_tally, shown_machines}
use Rattle.pieces.specs.Pieces.{Answers, printed_pieces}

-- a line is answered, or refused; a bad line is refused
abbrev pub is_answered : List ℕ → List ℕ → Bool
is_answered card line = is_some (line_counts card line)

abbrev pub answered_among : List ℕ → List (List ℕ) → List (List ℕ)
answered_among card lines = those (is_answered card) lines

abbrev pub refused_among : List ℕ → List (List ℕ) → List (List ℕ)
refused_among card lines = those (λ l. not (is_answered card l)) lines

-- the count of a machine in the answer to a line
abbrev pub count_in : ℕ → Option (List ℕ) → ℕ
count_in machine none = 0
count_in machine (some counts) = get_or counts machine 0

-- the sum of a machine's counts in the answers to lines
unfoldable pub total_of : List ℕ → ℕ → List (List ℕ) → ℕ
total_of card machine [] = 0
total_of card machine (l ∷ ls) = count_in machine (line_counts card l) + total_of card machine ls

-- the totals in card order: of each machine the sum of its counts in the answered lines
unfoldable pub totals : List ℕ → List (List ℕ) → List ℕ
totals card lines = map (λ machine. total_of card machine (answered_among card lines)) (numbers_below (shown_machines card))

-- the two lines after the last one
unfoldable pub closing : List ℕ → List (List ℕ) → List ℕ
closing card lines = closing_lines (length (answered_among card lines)) (length (refused_among card lines)) (totals card lines)

-- the first line past the thousandth is refused by 22, whatever its form, and ends the input
abbrev pub past_line : List (List ℕ) → List ℕ
past_line [] = []
past_line (l ∷ ls) = refused_line 22

-- for each of the first thousand lines what is printed for it; the refusal of a line past them; the two closing lines
unfoldable pub lesson_output : List ℕ → List (List ℕ) → List ℕ
lesson_output card lines = joined (printed card) (take 1000 lines) ++ past_line (drop 1000 lines) ++ closing card (take 1000 lines)

abbrev pub output : List ℕ → List ℕ → List ℕ
output card input = lesson_output card (lines_of input)

-- how many lines a tally counts
abbrev pub counted_lines : Tally → ℕ
counted_lines t = t.answered + t.refused

-- what reading to the end leaves, from any tally and any bytes held. No contract can say which bytes are read, so it says that there
-- are bytes that leave this
pub record Reads (card held : List ℕ) (tally : Tally) (line : List ℕ) (n : ℕ) (after : Tally) (written : Bool) : Type 0 where
  pub read : List ℕ
  pub answers : Answers card held read tally line n after written

-- the text that reading to the end leaves to print: what is printed after the lines that end in the bytes read. Of no text nothing
-- is said: a call that answers a length answers one above 0
pub record Finishes (card held : List ℕ) (tally : Tally) (out : List ℕ) (r : ℕ) : Type 0 where
  pub read : List ℕ
  pub fits : r ≤ length out
  pub text : 0 < r → take r out ≡ printed_pieces card (lines_tally card tally (ended_lines held read)) (held_after held read) []
