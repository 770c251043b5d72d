-- Counting the insertions by their lists, and writing them.
use Rattle.std.specs.Prelude.{◌≡◌, ◌+◌, ◌-◌, ◌*◌, ◌<◌, ◌≤◌}
use Rattle.basics.specs.Words.{false, List, ℕ, zero, suc, length, get_or, member, product}
use Rattle.machine.specs.Symbols.{empty_symbol}
use Rattle.machine.specs.Machine.{Machine}
use Rattle.product.specs.Nodes.{state_counts}
use Rattle.tables.specs.Places.{SixPlaces}
use Rattle.tables.specs.Tables.{CardMachines}
use Rattle.cells.specs.declared.Groups.{Groups}
use Rattle.cells.specs.Columns.{HoldsColumns, WeightsOf}
use Rattle.cells.specs.Groups.{GroupsOf}
use Rattle.insertions.specs.RankedWeights.{RankedWeights}
use Rattle.insertions.specs.Lanes.{start_of}
use Rattle.insertions.specs.Tables.{kept_lane, FoursOf}
use Rattle.insertions.specs.Listed.{Listed}

-- the sum of the first n numbers
unfoldable pub sum_to : List ℕ → ℕ → ℕ
sum_to xs zero = 0
sum_to xs (suc n) = sum_to xs n + get_or xs n 0

pub record AddPre (xs : List ℕ) (n : ℕ) : Type 0 where
  pub size : length xs ≡ 514
  pub some : 1 ≤ n
  pub within : n ≤ 514
  pub fits : sum_to xs n ≤ 65535

-- each of the first n numbers of xs added to those before it
pub record AddedUp (xs ys : List ℕ) (n : ℕ) : Type 0 where
  pub size : length ys ≡ 514
  pub sum : (i : ℕ) → i < n → get_or ys i 0 ≡ sum_to xs (i + 1)

-- the number before the place n, at n and behind it
pub record FilledOn (xs ys : List ℕ) (n : ℕ) : Type 0 where
  pub size : length ys ≡ 514
  pub before : (i : ℕ) → i < n → get_or ys i 0 ≡ get_or xs i 0
  pub behind : (i : ℕ) → n ≤ i → i < 514 → get_or ys i 0 ≡ get_or xs (n - 1) 0

-- the steps are the columns of machines for the empty symbol, and these are their state counts
pub record InsertionColumns (S : ℕ) (ms : List Machine) (steps counts : List ℕ) (W : ℕ) : Type 0 where
  pub machines : CardMachines S ms
  pub counts_are : counts ≡ state_counts ms
  pub columns : HoldsColumns ms empty_symbol W steps

pub record ListPre (steps counts ws : List ℕ) (W kept : ℕ) (g : Groups) : Type 0 where
  pub symbols : ℕ
  pub machines : List Machine
  pub of : InsertionColumns symbols machines steps counts W
  pub weights : WeightsOf counts ws
  pub groups : GroupsOf counts g
  pub few : g.front + g.back ≤ 66
  pub no_pair : member kept empty_symbol ≡ false

-- one place behind each list is where it starts, by the numbers of the insertions in the lists before it
pub record Counted (steps counts ws : List ℕ) (W kept : ℕ) (ends : List ℕ) : Type 0 where
  pub size : length ends ≡ 514
  pub fours : ℕ
  pub fours_are : FoursOf kept fours
  pub first : get_or ends 0 0 ≡ 0
  pub starts : (l : ℕ) → l ≤ 512 → get_or ends (l + 1) 0 ≡ start_of (kept_lane steps ws counts W kept) (fours * product counts * 4) l
  pub few : get_or ends 513 0 ≤ 63 * product counts

-- whichever machines the columns belong to, and in whichever ranked order the weights are
abbrev pub ListedBy : (steps counts ws : List ℕ) (W kept : ℕ) (entries ends : List ℕ) → Type 0
ListedBy steps counts ws W kept entries ends =
    (S : ℕ) (ms : List Machine) (places : List ℕ) → InsertionColumns S ms steps counts W → SixPlaces places → RankedWeights places ws → Listed ms places kept entries ends
