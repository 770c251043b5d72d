-- A set of outputs four by four, the least first.
use Rattle.std.specs.Prelude.{◌∷◌, ◌-◌}
use Rattle.basics.specs.Words.{List, [], ℕ}
use Rattle.std.specs.Int.Bits.{bit_and}
use Rattle.machine.specs.SymbolSets.{least_symbol}

-- a set without its least output; the empty set stays
abbrev pub after_least : ℕ → ℕ
after_least set = bit_and set (set - 1)

-- the next four outputs, 64 where there are no more
abbrev pub next_four : ℕ → List ℕ
next_four set = least_symbol set ∷ least_symbol (after_least set) ∷ least_symbol (after_least (after_least set)) ∷ least_symbol (after_least (after_least (after_least set))) ∷ []

-- the set without them
abbrev pub without_four : ℕ → ℕ
without_four set = after_least (after_least (after_least (after_least set)))
