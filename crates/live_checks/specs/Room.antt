-- Refusal 23: the row counts that a list of records can have.
use Rattle.std.specs.Prelude.{◌&&◌}
use Rattle.basics.specs.Words.{Bool, ℕ, leb, ltb}

-- 23: a row count that a list can have; on an add, one more fits
abbrev pub fits : ℕ → ℕ → Bool
fits count length = leb count 32 && leb count length

abbrev pub has_room : ℕ → ℕ → Bool
has_room count length = ltb count 32 && ltb count length
