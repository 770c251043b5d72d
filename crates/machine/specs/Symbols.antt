-- Symbols and pairs.
use Rattle.std.specs.Prelude.{◌&&◌}
use Rattle.basics.specs.Words.{Bool, not, ℕ, eqb, leb}
use Rattle.machine.specs.declared.Pair.{Pair}
pub use Rattle.symbols.specs.Symbols.{empty_symbol, first_symbol}

-- the pair of an in and an out
abbrev pub pair_of : ℕ → ℕ → Pair
pair_of x y = record { input = x; output = y }

-- in and out are not both empty
abbrev pub is_pair : Pair → Bool
is_pair p = not (eqb p.input empty_symbol && eqb p.output empty_symbol)

-- in and out are the empty symbol or one of the S symbols
abbrev pub within_symbols : ℕ → Pair → Bool
within_symbols S p = leb p.input S && leb p.output S
