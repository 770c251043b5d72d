-- The lines of an input, and what is taken of them from its segments.
use Rattle.std.specs.Prelude.{◌∷◌, ◌++◌, ◌+◌}
use Rattle.basics.specs.Words.{true, false, List, [], some, none, ℕ, length, take, eqb}
use Rattle.lines.specs.declared.Next.{Next}
use Rattle.lines.specs.declared.Next.TheVariants.{Line, Open}
use Rattle.writing.specs.Text.{line_end, to_first, before, after}

-- a line end ends a line, any other byte belongs to the line that goes on after it; so the last line may lack its line end,
-- and nothing after the last line end is no line
unfoldable pub lines_of : List ℕ → List (List ℕ)
lines_of [] = []
lines_of (x ∷ xs) = elim (eqb x line_end) [ true ↦ [] ∷ lines_of xs | false ↦ to_first x (lines_of xs) ]

-- what is kept of a line: one byte more than a line may have, so that one over 200 bytes is known for a bad line
abbrev pub kept : List ℕ → List ℕ
kept line = take 201 line

-- what is found in the rest of a piece, which starts at a place, of a line whose bytes so far are held: whether the line ends
-- there, how many bytes are kept of it, and where the next line starts
unfoldable pub next_of : List ℕ → ℕ → List ℕ → Next
next_of held from rest =
    elim (after line_end rest) [
      | none ↦ Open (length (kept (held ++ before line_end rest)))
      | some others ↦ Line (length (kept (held ++ before line_end rest))) (from + length (before line_end rest) + 1)
    ]
