-- Joint steps one after the other, each with the code that it leads from, a lane each: which are listed, in which list, as which entry.
use Rattle.std.specs.Prelude.{◌&&◌, ◌+◌, ◌*◌, ◌/◌, ◌%◌}
use Rattle.basics.specs.Words.{Bool, cond, not, List, ℕ, zero, suc, min, get_or, set, eqb, ltb}
use Rattle.cells.specs.Cells.{nowhere}

-- the code that a step leads from, and its two numbers
pub record Lane : Type 0 where
  pub code : ℕ
  pub high : ℕ
  pub low : ℕ

abbrev pub lane_of : ℕ → ℕ → ℕ → Lane
lane_of c h l = record { code = c; high = h; low = l }

-- a step that leads from its code to another one
abbrev pub is_move : ℕ → ℕ → Bool
is_move code high = ltb high nowhere && not (eqb (high % 128) code)

-- by the code led to, and by the marks of the first place, three or more in one
abbrev pub list_of : ℕ → ℕ
list_of high = high % 128 * 4 + min (high / 1099511627776) 3

-- three counts below 16 from 16 bits each to four bits each
abbrev pub narrowed : ℕ → ℕ
narrowed n = (n + n / 4096 + n / 16777216) % 4096

-- the code in front of the marks
abbrev pub entry_of : ℕ → ℕ → ℕ → ℕ
entry_of code high low = code * 16777216 + (narrowed (high / 256) * 4096 + narrowed (low / 65536))

-- ---- what a lane does to the ends of the lists and to the entries

-- one more, k places behind its list
unfoldable pub bump : ℕ → Lane → List ℕ → List ℕ
bump k x ns = cond (is_move x.code x.high) (set ns (list_of x.high + k) (get_or ns (list_of x.high + k) 0 + 1)) ns

-- its entry where its list ends
unfoldable pub put : Lane → List ℕ → List ℕ → List ℕ
put x es ns = cond (is_move x.code x.high) (set es (get_or ns (list_of x.high + 1) 0) (entry_of x.code x.high x.low)) es

-- the first n lanes
unfoldable pub bumped : ℕ → (ℕ → Lane) → ℕ → List ℕ → List ℕ
bumped k f zero ns = ns
bumped k f (suc n) ns = bump k (f n) (bumped k f n ns)

unfoldable pub placed : (ℕ → Lane) → ℕ → List ℕ → List ℕ → List ℕ
placed f zero es ns = es
placed f (suc n) es ns = put (f n) (placed f n es ns) (bumped 1 f n ns)

-- ---- how many lanes are in a list

unfoldable pub hit : ℕ → Lane → ℕ
hit l x = cond (is_move x.code x.high && eqb (list_of x.high) l) 1 0

-- of the first n
unfoldable pub count_to : (ℕ → Lane) → ℕ → ℕ → ℕ
count_to f l zero = 0
count_to f l (suc n) = count_to f l n + hit l (f n)

-- of the first n, in the lists before l
unfoldable pub start_of : (ℕ → Lane) → ℕ → ℕ → ℕ
start_of f n zero = 0
start_of f n (suc l) = start_of f n l + count_to f l n
