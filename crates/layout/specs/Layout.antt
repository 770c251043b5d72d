-- The layout of parts in a byte string: from byte 2 on, a table with the place of each part, its 16-bit offset and its 16-bit length; then
-- the parts, one after another. How many there are is handed in.
use Rattle.std.specs.Prelude.{◌&&◌, ◌+◌, ◌*◌, ◌<◌}
use Rattle.basics.specs.Words.{Bool, List, map, ℕ, zero, suc, length, get_or, take, drop, eqb, leb, every_below, numbers_below}

-- every element is a byte
abbrev pub Bytes : List ℕ → Type 0
Bytes l = (i : ℕ) → get_or l i 0 < 256

-- the little-endian number of two bytes
abbrev pub short_at : List ℕ → ℕ → ℕ
short_at l at = get_or l at 0 + 256 * get_or l (at + 1) 0

-- where part i starts, and its length
abbrev pub offset_of : List ℕ → ℕ → ℕ
offset_of bytes i = short_at bytes (2 + 4 * i)

abbrev pub length_of : List ℕ → ℕ → ℕ
length_of bytes i = short_at bytes (4 + 4 * i)

-- where part i of n has to start: the first at 2 + 4n, each next one where the previous one ends; for i = n, where the string has to end
unfoldable pub due_offset : ℕ → List ℕ → ℕ → ℕ
due_offset n bytes zero = 2 + 4 * n
due_offset n bytes (suc i) = offset_of bytes i + length_of bytes i

-- part i starts where it has to
abbrev pub in_place : ℕ → List ℕ → ℕ → Bool
in_place n bytes i = eqb (offset_of bytes i) (due_offset n bytes i)

-- n parts are laid out
unfoldable pub laid_out : ℕ → List ℕ → Bool
laid_out n bytes =
    leb (2 + 4 * n) (length bytes) && every_below (in_place n bytes) n && eqb (due_offset n bytes n) (length bytes)

-- part i, and the n parts in order
abbrev pub part_of : List ℕ → ℕ → List ℕ
part_of bytes i = take (length_of bytes i) (drop (offset_of bytes i) bytes)

unfoldable pub parts_in : ℕ → List ℕ → List (List ℕ)
parts_in n bytes = map (part_of bytes) (numbers_below n)
