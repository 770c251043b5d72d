-- Symbols.
use Rattle.std.specs.Prelude.{ℕ, ◌+◌}

-- byte 0 is the empty symbol
abbrev pub empty_symbol : ℕ
empty_symbol = 0

-- the other symbols start behind it
abbrev pub first_symbol : ℕ
first_symbol = empty_symbol + 1
