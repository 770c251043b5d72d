-- What is taken of an input that comes in pieces, byte by byte.
use Rattle.std.specs.Prelude.{◌∷◌, ◌++◌}
use Rattle.basics.specs.Words.{true, false, List, [], ℕ, eqb}
use Rattle.writing.specs.Text.{line_end}
use Rattle.lines.specs.Input.{kept}

-- the lines that end in a piece, where the first one's bytes so far are held
unfoldable pub ended_lines : List ℕ → List ℕ → List (List ℕ)
ended_lines held [] = []
ended_lines held (x ∷ xs) = elim (eqb x line_end) [ true ↦ held ∷ ended_lines [] xs | false ↦ ended_lines (kept (held ++ (x ∷ []))) xs ]

-- the bytes that are held after a piece
unfoldable pub held_after : List ℕ → List ℕ → List ℕ
held_after held [] = held
held_after held (x ∷ xs) = elim (eqb x line_end) [ true ↦ held_after [] xs | false ↦ held_after (kept (held ++ (x ∷ []))) xs ]

-- after the last piece, bytes that are held are the last line
abbrev pub last_line : List ℕ → List (List ℕ)
last_line [] = []
last_line (x ∷ xs) = (x ∷ xs) ∷ []

-- the lines that are taken from pieces, one after another
unfoldable pub lines_taken : List ℕ → List (List ℕ) → List (List ℕ)
lines_taken held [] = last_line held
lines_taken held (p ∷ ps) = ended_lines held p ++ lines_taken (held_after held p) ps
