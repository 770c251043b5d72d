-- Texts written in a lent buffer.
use Rattle.std.specs.Prelude.{◌≡◌, ◌++◌, ◌+◌, ◌<◌}
use Rattle.basics.specs.Words.{List, ℕ, length, get_or, drop, sets}

-- every number of a list is below a bound
abbrev pub Below : ℕ → List ℕ → Type 0
Below bound l = (i : ℕ) → get_or l i 0 < bound

-- a text written at the front of a buffer: the other bytes keep their values
abbrev pub at_front : List ℕ → List ℕ → List ℕ
at_front text buffer = text ++ drop (length text) buffer

-- a text written from a place on, byte by byte: the new buffer, and the place after the text
pub record Written (text : List ℕ) (at : ℕ) (old new : List ℕ) (next : ℕ) : Type 0 where
  pub place : next ≡ at + length text
  pub bytes : new ≡ sets old at text
