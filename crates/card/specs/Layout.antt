-- The layout of a card: machine count, symbol count, the machine parts.
use Rattle.std.specs.Prelude.{◌&&◌}
use Rattle.basics.specs.Words.{Bool, List, ℕ, length, get_or, leb}
use Rattle.layout.specs.Layout.{parts_in}
pub use Rattle.layout.specs.Layout.{part_of}

-- K, machines, and S, symbols
abbrev pub machine_count : List ℕ → ℕ
machine_count card = get_or card 0 0

abbrev pub symbol_count : List ℕ → ℕ
symbol_count card = get_or card 1 0

-- K is 1 to 6 and S is 1 to 63
abbrev pub sound_counts : ℕ → ℕ → Bool
sound_counts K S = leb 1 K && leb K 6 && leb 1 S && leb S 63

-- not refusal 1
unfoldable pub counted : List ℕ → Bool
counted card = leb 2 (length card) && sound_counts (machine_count card) (symbol_count card)

-- the machine parts of a card, K of them
unfoldable pub parts_of : List ℕ → List (List ℕ)
parts_of card = parts_in (machine_count card) card
