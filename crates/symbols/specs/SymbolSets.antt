-- Sets of symbols: going through one from the least symbol on, and the symbols that make pairs of a kind.
use Rattle.std.specs.Prelude.{◌&&◌, ◌+◌, ◌^◌}
use Rattle.basics.specs.Words.{Bool, not, ℕ, zero, suc, eqb, ltb}
use Rattle.std.specs.Int.Bits.{bit_and, bit_xor}
use Rattle.std.specs.Int.Count.{count_trailing_zeros}
use Rattle.symbols.specs.Symbols.{empty_symbol}

-- the least symbol of a set of symbols, 64 where it is empty
abbrev pub least_symbol : ℕ → ℕ
least_symbol set = count_trailing_zeros 64 set

-- a set without a symbol, and without the empty symbol
abbrev pub without_symbol : ℕ → ℕ → ℕ
without_symbol set x = bit_and set (bit_xor set (2 ^ x))

abbrev pub without_empty : ℕ → ℕ
without_empty set = without_symbol set empty_symbol

-- a set is not empty and has no bit over S
abbrev pub sound_set : ℕ → ℕ → Bool
sound_set S set = not (eqb set 0) && ltb set (2 ^ (S + 1))

-- the symbols of a set that make a pair of an arc's kind with the symbol x: any, x itself unless it is the empty symbol, all but x
unfoldable pub partners : ℕ → ℕ → ℕ → ℕ
partners zero set x = set
partners (suc zero) set x = without_empty (bit_and set (2 ^ x))
partners (suc (suc k)) set x = without_symbol set x
