-- Entering a position in a stage by joint steps: from its codes, four outputs at a time, and by endings.
use Rattle.std.specs.Prelude.{◌≡◌, ◌⊎◌, ◌≢◌, ◌+◌, ◌*◌, ◌/◌, ◌%◌, ◌^◌, ◌≤◌, ◌<◌}
use Rattle.basics.specs.Words.{Bool, true, false, cond, List, Option, none, some, ℕ, length, get_or, ltb}
use Rattle.machine.specs.declared.Pair.{Pair}
use Rattle.paths.specs.Ranked.{Ranked, Less, count_at, ranked_costs}
use Rattle.paths.specs.Improvement.{Falls}
use Rattle.paths.specs.Graph.{Graph}
use Rattle.paths.specs.Labels.{Attained}
use Rattle.tables.specs.Marks.{marks_cost}
use Rattle.product.specs.ProductGraph.{pairs}
use Rattle.cells.specs.Groups.{sum_at}
use Rattle.cells.specs.Cells.{nowhere}
use Rattle.cells.specs.Laws.Tried.{lane_sum}
use Rattle.insertions.specs.Lanes.{narrowed}
use Rattle.insertions.specs.Tables.{LanesPre}
use Rattle.stage_entering.specs.declared.Site.{Site}
use Rattle.stage.specs.StageLabels.{count_of, stage_label}
use Rattle.stage_entering.specs.Relaxation.{Relaxes}
use Rattle.stage.specs.Relaxing.{no_counts, LeftTold, Lowered, Fits, StepTried, LinkedEntry}

-- the marks of a joint step by its two numbers, four bits a place of the ranking
abbrev pub marks_by : ℕ → ℕ → ℕ
marks_by high low = narrowed (high / 256) * 4096 + narrowed (low / 65536)

-- the joint step of two numbers: the code that it leads to, and its marks
unfoldable pub lane_step : ℕ → ℕ → Option (ℕ × ℕ)
lane_step high low = cond (ltb high nowhere) (some (high % 128, marks_by high low)) none

-- the numbers of a place of either group
abbrev pub lane_at : (high low : List ℕ) (a b j : ℕ) → Option (ℕ × ℕ)
lane_at high low a b j = lane_step (get_or high (a + j) 0 + get_or high (b + j) 0) (get_or low (a + j) 0 + get_or low (b + j) 0)

-- ---- a first look at an arc: counts of the first constraints as one number

-- the marks of a label, 65535 where there is none
abbrev pub top_of : Option (Ranked 1) → ℕ
top_of none = 65535
top_of (some c) = c.0

-- n is the counts of the node u of the first three constraints, or of those up to the stage k
pub record FrontCounts (xs : List ℕ) (k u n : ℕ) : Type 0 where
  pub first : k ≡ 0 → n ≡ top_of (stage_label xs k u)
  pub second : k ≡ 1 → n ≡ count_of xs 0 u * 65536 + top_of (stage_label xs k u)
  pub third : k ≡ 2 → n ≡ (count_of xs 0 u * 65536 + count_of xs 1 u) * 65536 + top_of (stage_label xs k u)
  pub later : 3 ≤ k → n ≡ (count_of xs 0 u * 65536 + count_of xs 1 u) * 65536 + count_of xs 2 u
  pub few : n < 2 ^ 48

-- those of the P nodes from t on
pub record AheadOf (xs : List ℕ) (k t P : ℕ) (ahead : List ℕ) : Type 0 where
  pub each : (c : ℕ) → c < P → FrontCounts xs k (t + c) (get_or ahead c 0)

-- behind the marks of those constraints a joint step has s bits
pub record BehindFront (k s : ℕ) : Type 0 where
  pub first : k ≡ 0 → s ≡ 40
  pub second : k ≡ 1 → s ≡ 24
  pub third : 2 ≤ k → s ≡ 8
  pub few : s < 64

-- the marks of the first three constraints stand in front in the first number of a joint step
pub record FrontMarks (high low : ℕ) : Type 0 where
  pub first : high / 2 ^ 40 ≡ count_at 6 0 (marks_cost (marks_by high low))
  pub second : high / 2 ^ 24 ≡ count_at 6 0 (marks_cost (marks_by high low)) * 65536 + count_at 6 1 (marks_cost (marks_by high low))
  pub third : high / 2 ^ 8 ≡ (count_at 6 0 (marks_cost (marks_by high low)) * 65536 + count_at 6 1 (marks_cost (marks_by high low))) * 65536 + count_at 6 2 (marks_cost (marks_by high low))

-- ---- what is asked

-- the node u, and P targets from t on, behind it
pub record TargetsPre (xs : List ℕ) (u t P k : ℕ) : Type 0 where
  pub apart : u < t
  pub targets : (t + P) * 8 ≤ length xs
  pub few : t + P ≤ 3200
  pub stage : k < 6
  pub fits : (v : ℕ) (d : Ranked 1) → t ≤ v → v < t + P → stage_label xs k v ≡ some d → Fits d

-- a step that leads to one of them; the front counts are those of some slice from which labels have fallen
pub record LanePre (xs ahead : List ℕ) (step rest goal u t k : ℕ) : Type 0 where
  pub codes : ℕ
  pub given : TargetsPre xs u t codes k
  pub some_code : 0 < codes
  pub leads : step % 128 < codes
  pub marks : step < nowhere → FrontMarks step rest
  pub start : List ℕ
  pub goal_is : FrontCounts start k u goal
  pub ahead_is : AheadOf start k t codes ahead
  pub counts : (i w : ℕ) → i < k → count_of xs i w ≡ count_of start i w
  pub others : (w : ℕ) → w ≢ u → stage_label xs k w ≡ stage_label start k w
  pub falls : Falls (Less 1) (stage_label start k) (stage_label xs k)

pub record CodePre (xs ahead high low : List ℕ) (a b u t k : ℕ) : Type 0 where
  pub codes : ℕ
  pub given : TargetsPre xs u t codes k
  pub some_code : 0 < codes
  pub leads : (j : ℕ) → j < 4 → (get_or high (a + j) 0 + get_or high (b + j) 0) % 128 < codes
  pub marks : (j : ℕ) → j < 4 → get_or high (a + j) 0 + get_or high (b + j) 0 < nowhere → FrontMarks (get_or high (a + j) 0 + get_or high (b + j) 0) (get_or low (a + j) 0 + get_or low (b + j) 0)
  pub ahead_is : AheadOf xs k t codes ahead
  pub highs : LanesPre high a b
  pub lows : LanesPre low a b

-- how many codes a position has
abbrev pub codes_at : Site → ℕ
codes_at at = at.groups.size

-- a position whose nodes are from b on, and the next one behind it
pub record NodesPre (xs : List ℕ) (b P k : ℕ) : Type 0 where
  pub nodes : (b + P + P) * 8 ≤ length xs
  pub few : b + P + P ≤ 3200
  pub stage : k < 6
  pub fits : (v : ℕ) (d : Ranked 1) → b + P ≤ v → v < b + P + P → stage_label xs k v ≡ some d → Fits d

pub record FourPre (xs ahead high low : List ℕ) (at : Site) : Type 0 where
  pub given : NodesPre xs at.base (codes_at at) at.stage
  pub few : codes_at at ≤ 128
  pub size_is : codes_at at ≡ at.groups.front * at.groups.back
  pub small : at.groups.front + at.groups.back ≤ 66
  pub some_back : 0 < at.groups.back
  pub high_room : (at.groups.front + at.groups.back) * 4 ≤ length high
  pub low_room : (at.groups.front + at.groups.back) * 4 ≤ length low
  pub high_sums : (c j : ℕ) → c < codes_at at → j < 4 → lane_sum high at.groups c j < 2 ^ 64
  pub low_sums : (c j : ℕ) → c < codes_at at → j < 4 → lane_sum low at.groups c j < 2 ^ 64
  pub leads : (c j : ℕ) → c < codes_at at → j < 4 → lane_sum high at.groups c j % 128 < codes_at at
  pub marks : (c j : ℕ) → c < codes_at at → j < 4 → lane_sum high at.groups c j < nowhere → FrontMarks (lane_sum high at.groups c j) (lane_sum low at.groups c j)
  pub ahead_is : AheadOf xs at.stage (at.base + codes_at at) (codes_at at) ahead

-- ---- what is done

pub record LaneTried (xs ys : List ℕ) (step rest u t k : ℕ) : Type 0 where
  pub lower : Bool
  pub tried : StepTried xs ys (lane_step step rest) u t k lower

-- the pairs of the first n lanes, at the node u
abbrev pub LanesOf : (ℕ → Pair) → (u n : ℕ) → ℕ → Pair → Type 0
LanesOf p u n w q = (w ≡ u) × ((j : ℕ) × (j < n) × (q ≡ p j))

-- the node u was tried by them
pub record LanesTried (xs ys high low : List ℕ) (a b u t k n : ℕ) : Type 0 where
  pub size : length ys ≡ length xs
  pub counts : (i w : ℕ) → i < k → count_of ys i w ≡ count_of xs i w
  pub others : (w : ℕ) → w ≢ u → stage_label ys k w ≡ stage_label xs k w
  pub falls : Falls (Less 1) (stage_label xs k) (stage_label ys k)
  pub relaxes : (S : Graph (ranked_costs 1) pairs) (p : ℕ → Pair) → ((j : ℕ) → j < n → LinkedEntry S xs k u (p j) t (lane_at high low a b j)) → Attained S (stage_label xs k)
      → Relaxes S (stage_label xs k) (stage_label ys k) (LanesOf p u n)

-- the pairs of four lanes, at the first n nodes from b on
abbrev pub FoursOf : (ℕ → Pair) → (b n : ℕ) → ℕ → Pair → Type 0
FoursOf p b n w q = (b ≤ w) × (w < b + n) × ((j : ℕ) × (j < 4) × (q ≡ p j))

pub record CodesTried (xs ys high low : List ℕ) (front back k b t n : ℕ) : Type 0 where
  pub size : length ys ≡ length xs
  pub counts : (i w : ℕ) → i < k → count_of ys i w ≡ count_of xs i w
  pub others : (w : ℕ) → (w < b) ⊎ (b + n ≤ w) → stage_label ys k w ≡ stage_label xs k w
  pub relaxes : (S : Graph (ranked_costs 1) pairs) (p : ℕ → Pair) → ((c j : ℕ) → c < n → j < 4 → LinkedEntry S xs k (b + c) (p j) t (lane_step (sum_at high front (c / back) (c % back) j) (sum_at low front (c / back) (c % back) j))) → Attained S (stage_label xs k)
      → Relaxes S (stage_label xs k) (stage_label ys k) (FoursOf p b n)

-- ---- endings

-- the marks of a joint ending by its two numbers
unfoldable pub lane_ending : ℕ → ℕ → Option ℕ
lane_ending high low = cond (ltb high nowhere) (some (marks_by high low)) none

-- the node u was tried by its ending
pub data EndingTried (xs ys : List ℕ) (o : Option ℕ) (u k : ℕ) : Type 0 where
  not_final : o ≡ none → ys ≡ xs → EndingTried xs ys o u k
  dropped_ending : (m : ℕ) → o ≡ some m → (r : Bool) → LeftTold xs u m k no_counts r → r ≡ false → ys ≡ xs → EndingTried xs ys o u k
  lowered_ending : (m : ℕ) → o ≡ some m → (r : Bool) → LeftTold xs u m k no_counts r → r ≡ true → (a : ℕ) → a ≡ count_at 6 k (marks_cost m) → (b : Bool) → Lowered xs ys k u (a, 0) b → EndingTried xs ys o u k
