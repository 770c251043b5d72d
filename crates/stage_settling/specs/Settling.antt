-- Settling a position in a stage: its labels fall by insertions, in lists by the code that they lead to, until none falls.
use Rattle.std.specs.Prelude.{◌≡◌, ◌⊎◌, ◌+◌, ◌*◌, ◌≤◌, ◌<◌}
use Rattle.basics.specs.Words.{Bool, true, false, cond, List, some, ℕ, zero, suc, length, get_or, member}
use Rattle.machine.specs.declared.Pair.{Pair}
use Rattle.paths.specs.Costs.{Labels, AtMost}
use Rattle.paths.specs.Ranked.{Ranked, Less, count_at, ranked_costs}
use Rattle.paths.specs.Graph.{Graph, path_cost}
use Rattle.paths.specs.Labels.{Attained}
use Rattle.paths.specs.Improvement.{Falls}
use Rattle.tables.specs.Marks.{marks_cost}
use Rattle.tables.specs.Work.{HasNode}
use Rattle.product.specs.ProductGraph.{pairs}
use Rattle.settling.specs.Insertions.{code_in, marks_in, is_listed}
use Rattle.settling.specs.OpenCodes.{is_open, OneMore, OneLess}
use Rattle.stage.specs.Below.{Below}
use Rattle.stage.specs.StageLabels.{count_of, stage_label, total}
use Rattle.stage.specs.Relaxing.{Makes, counts_of, Fits, ArcPre, ArcTried}

-- the stages before k kept the arc from u to v with the marks m, as the counts tell
abbrev pub Kept : List ℕ → (k u v m : ℕ) → Type 0
Kept xs k u v m = Below (Makes xs u m (counts_of xs v)) k

-- what the arc and the label d of v cost together
abbrev pub way_by : (k m : ℕ) → Ranked 1 → Ranked 1
way_by k m d = (count_at 6 k (marks_cost m) + d.0, 1 + d.1)

-- of the insertion at a place the marks, and the node that it leads from, where those of the position are from b on
abbrev pub marks_of : List ℕ → ℕ → ℕ
marks_of entries at = marks_in (get_or entries at 0)

abbrev pub from_of : List ℕ → ℕ → ℕ → ℕ
from_of entries b at = b + code_in (get_or entries at 0)

-- an insertion that is kept is an edge of S, where its target has a way to an end
pub record ArcsOf (S : Graph (ranked_costs 1) pairs) (xs entries ends : List ℕ) (k b : ℕ) : Type 0 where
  pub edge : (v at : ℕ) → is_listed ends v at ≡ true → (ps : List Pair) (d : Ranked 1) → path_cost S (b + v) ps ≡ some d → Kept xs k (from_of entries b at) (b + v) (marks_of entries at)
      → (p : Pair) × (S.edge (from_of entries b at) p ≡ some (record { target = b + v; cost = (count_at 6 k (marks_cost (marks_of entries at)), 1) }))

-- ---- what is asked

pub record SettlePre (xs entries ends : List ℕ) (k b P : ℕ) : Type 0 where
  pub graph : Graph (ranked_costs 1) pairs
  pub arcs : ArcsOf graph xs entries ends k b
  pub attained : Attained graph (stage_label xs k)
  pub fits : (L : Labels (ranked_costs 1)) → Attained graph L → (v : ℕ) (d : Ranked 1) → b ≤ v → v < b + P → L v ≡ some d → Fits d
  pub nodes : (b + P) * 8 ≤ length xs
  pub few_nodes : b + P ≤ 3200
  pub few : P ≤ 128
  pub stage : k < 6
  pub within : (v at : ℕ) → is_listed ends v at ≡ true → at < length entries
  pub to : (v at : ℕ) → is_listed ends v at ≡ true → v < P
  pub from : (v at : ℕ) → is_listed ends v at ≡ true → code_in (get_or entries at 0) < P

-- the same of some number of codes, and one of these
pub record SpreadPre (xs os entries ends : List ℕ) (k b v : ℕ) : Type 0 where
  pub codes : ℕ
  pub given : SettlePre xs entries ends k b codes
  pub code : v < codes
  pub bits : length os ≡ 2

pub record EntryPre (xs os : List ℕ) (entry k b v : ℕ) : Type 0 where
  pub arc : ArcPre xs (b + code_in entry) (b + v) (marks_in entry) k
  pub few : b ≤ 3200
  pub code : v < 128
  pub from : code_in entry < 128
  pub bits : length os ≡ 2

-- a position, and open codes of it
pub record OpenIn (xs os : List ℕ) (b : ℕ) : Type 0 where
  pub bits : length os ≡ 2
  pub few : b ≤ 3200
  pub there : (w : ℕ) → is_open os w ≡ true → HasNode xs (b + w)

-- the codes of the set whose code 0 is `first` are codes of a position
pub record SomeIn (xs : List ℕ) (set first b : ℕ) : Type 0 where
  pub few : b ≤ 3200
  pub half : first ≤ 64
  pub there : (c : ℕ) → c < 64 → member set c ≡ true → HasNode xs (b + (first + c))

-- ---- what is done

-- the arc of the entry was tried, and its code is open where that gave it less
pub record EntryTried (xs ys os ps : List ℕ) (entry k b v : ℕ) : Type 0 where
  pub lower : Bool
  pub tried : ArcTried xs ys (b + code_in entry) (b + v) (marks_in entry) k lower
  pub more : lower ≡ true → OneMore os ps (code_in entry)
  pub same : lower ≡ false → ps ≡ os

-- how many of the first P codes are open
unfoldable pub open_count : List ℕ → ℕ → ℕ
open_count os zero = 0
open_count os (suc P) = cond (is_open os P) 1 0 + open_count os P

-- what falls at each turn
abbrev pub turns : (xs os : List ℕ) (k b P : ℕ) → ℕ
turns xs os k b P = 2 * total (stage_label xs k) b P + open_count os P

-- labels of the P nodes from b on may have fallen from xs to ys, and those codes are open
pub record Fell (xs ys os ps entries ends : List ℕ) (k b P : ℕ) : Type 0 where
  pub size : length ys ≡ length xs
  pub bits : length ps ≡ length os
  pub counts : (i w : ℕ) → i < k → count_of ys i w ≡ count_of xs i w
  pub others : (w : ℕ) → (w < b) ⊎ (b + P ≤ w) → stage_label ys k w ≡ stage_label xs k w
  pub falls : Falls (Less 1) (stage_label xs k) (stage_label ys k)
  pub stays : (w : ℕ) → is_open os w ≡ true → is_open ps w ≡ true
  pub inside : (w : ℕ) → is_open ps w ≡ true → (is_open os w ≡ true) ⊎ (w < P)
  pub same : (w : ℕ) → is_open ps w ≡ false → stage_label ys k (b + w) ≡ stage_label xs k (b + w)
  pub fewer : turns ys ps k b P ≤ turns xs os k b P
  pub attained : (S : Graph (ranked_costs 1) pairs) → ArcsOf S xs entries ends k b → Attained S (stage_label xs k) → Attained S (stage_label ys k)

-- the insertion to v at a place gives its node no less
abbrev pub RelaxedAt : (ys entries : List ℕ) (k b v at : ℕ) → Type 0
RelaxedAt ys entries k b v at =
    (d : Ranked 1) → stage_label ys k (b + v) ≡ some d → Kept ys k (from_of entries b at) (b + v) (marks_of entries at) → AtMost (Less 1) (stage_label ys k (from_of entries b at)) (way_by k (marks_of entries at) d)

-- the insertions to v lead from the first P codes
abbrev pub FromFirst : (entries ends : List ℕ) (v P : ℕ) → Type 0
FromFirst entries ends v P = (at : ℕ) → is_listed ends v at ≡ true → code_in (get_or entries at 0) < P

-- the insertions to v were tried
pub record Spread (xs ys os ps entries ends : List ℕ) (k b v : ℕ) : Type 0 where
  pub fell : (P : ℕ) → FromFirst entries ends v P → Fell xs ys os ps entries ends k b P
  pub relaxed : (at : ℕ) → is_listed ends v at ≡ true → RelaxedAt ys entries k b v at

-- v was closed, and then the insertions to it were tried
pub record Taken (xs ys os ps entries ends : List ℕ) (k b v : ℕ) : Type 0 where
  pub between : List ℕ
  pub less : OneLess os between v
  pub spread : Spread xs ys between ps entries ends k b v

-- no insertion gives a node less
pub record SettledBy (xs ys entries ends : List ℕ) (k b P : ℕ) : Type 0 where
  pub size : length ys ≡ length xs
  pub counts : (i w : ℕ) → i < k → count_of ys i w ≡ count_of xs i w
  pub others : (w : ℕ) → (w < b) ⊎ (b + P ≤ w) → stage_label ys k w ≡ stage_label xs k w
  pub falls : Falls (Less 1) (stage_label xs k) (stage_label ys k)
  pub attained : (S : Graph (ranked_costs 1) pairs) → ArcsOf S xs entries ends k b → Attained S (stage_label xs k) → Attained S (stage_label ys k)
  pub closed : (v at : ℕ) → is_listed ends v at ≡ true → RelaxedAt ys entries k b v at
