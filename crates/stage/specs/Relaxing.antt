-- Trying one arc in a stage: what the inner functions promise.
use Rattle.std.specs.Prelude.{◌≡◌, ◌≢◌, ◌+◌, ◌^◌, ◌≤◌, ◌<◌}
use Rattle.basics.specs.Words.{Bool, true, false, List, Option, none, some, ℕ, length}
use Rattle.machine.specs.declared.Pair.{Pair}
use Rattle.paths.specs.Costs.{AtMost, Above}
use Rattle.paths.specs.Ranked.{Ranked, Less, count_at, ranked_costs}
use Rattle.paths.specs.Graph.{Edge, Graph, path_cost}
use Rattle.paths.specs.Improvement.{Improves}
use Rattle.tables.specs.Marks.{marks_cost}
use Rattle.tables.specs.Work.{HasNode}
use Rattle.product.specs.ProductGraph.{pairs}
use Rattle.stage.specs.Below.{Below}
use Rattle.stage.specs.StageLabels.{count_of, stage_label, total}

-- ---- what the stages before kept

-- the count i of u is that of the marks m and that of what comes after
abbrev pub Makes : List ℕ → ℕ → ℕ → (ℕ → ℕ) → ℕ → Type 0
Makes xs u m after i = count_of xs i u ≡ count_at 6 i (marks_cost m) + after i

abbrev pub counts_of : List ℕ → ℕ → ℕ → ℕ
counts_of xs v i = count_of xs i v

abbrev pub no_counts : ℕ → ℕ
no_counts i = 0

-- whether that is so of all counts below k
pub record LeftTold (xs : List ℕ) (u m k : ℕ) (after : ℕ → ℕ) (r : Bool) : Type 0 where
  pub kept : r ≡ true → Below (Makes xs u m after) k
  pub dropped : r ≡ false → (i : ℕ) × (i < k) × (¬ (Makes xs u m after i))

-- ---- the label of one node

pub record NodePre (xs : List ℕ) (u k : ℕ) : Type 0 where
  pub node : HasNode xs u
  pub stage : k < 6

-- whether the cost c is below the label of u, or u has none
pub record Compared (xs : List ℕ) (u k : ℕ) (c : Ranked 1) (r : Bool) : Type 0 where
  pub below : r ≡ true → Above (Less 1) (stage_label xs k u) c
  pub upto : r ≡ false → AtMost (Less 1) (stage_label xs k u) c

-- ys is xs with the label c of u
pub record Written (xs ys : List ℕ) (k u : ℕ) (c : Ranked 1) : Type 0 where
  pub size : length ys ≡ length xs
  pub label : stage_label ys k u ≡ some c
  pub others : (w : ℕ) → w ≢ u → stage_label ys k w ≡ stage_label xs k w
  pub counts : (i w : ℕ) → i < k → count_of ys i w ≡ count_of xs i w

-- ys is xs with the label of u improved by the cost c; r tells whether that changed it
pub record Lowered (xs ys : List ℕ) (k u : ℕ) (c : Ranked 1) (r : Bool) : Type 0 where
  pub size : length ys ≡ length xs
  pub counts : (i w : ℕ) → i < k → count_of ys i w ≡ count_of xs i w
  pub label : Improves (Less 1) (stage_label xs k) u c (stage_label ys k)
  pub same : r ≡ false → ys ≡ xs
  pub less : r ≡ true → (b P : ℕ) → b ≤ u → u < b + P → total (stage_label ys k) b P < total (stage_label xs k) b P

-- ---- one arc, from u to v with the marks m

-- a pair more fits into 16 bits
abbrev pub Fits : Ranked 1 → Type 0
Fits d = (d.0 + 15 < 65536) × (d.1 + 1 < 65536)

pub record ArcPre (xs : List ℕ) (u v m k : ℕ) : Type 0 where
  pub node : HasNode xs u
  pub target : HasNode xs v
  pub marks : m < 16 ^ 6
  pub stage : k < 6
  pub fits : (d : Ranked 1) → stage_label xs k v ≡ some d → Fits d

pub data ArcTried (xs ys : List ℕ) (u v m k : ℕ) (r : Bool) : Type 0 where
  unlabelled : stage_label xs k v ≡ none → r ≡ false → ys ≡ xs → ArcTried xs ys u v m k r
  dropped : (d : Ranked 1) → stage_label xs k v ≡ some d → (i : ℕ) → i < k → ¬ (Makes xs u m (counts_of xs v) i) → r ≡ false → ys ≡ xs → ArcTried xs ys u v m k r
  lowered : (d : Ranked 1) → stage_label xs k v ≡ some d → Below (Makes xs u m (counts_of xs v)) k → Lowered xs ys k u (count_at 6 k (marks_cost m) + d.0, 1 + d.1) r → ArcTried xs ys u v m k r

-- ---- a joint step from u; the codes that it leads to are those of the nodes from t on

pub data StepTried (xs ys : List ℕ) (o : Option (ℕ × ℕ)) (u t k : ℕ) (r : Bool) : Type 0 where
  nothing : o ≡ none → r ≡ false → ys ≡ xs → StepTried xs ys o u t k r
  arc : (to m : ℕ) → o ≡ some (to, m) → ArcTried xs ys u (t + to) m k r → StepTried xs ys o u t k r

-- ---- the step as an edge of a stage's graph S

-- the step o from u is its edge for p, if the stages before kept it. That is told where the step's target has a way to an end
pub record LinkedEntry (S : Graph (ranked_costs 1) pairs) (xs : List ℕ) (k u : ℕ) (p : Pair) (t : ℕ) (o : Option (ℕ × ℕ)) : Type 0 where
  pub gone : o ≡ none → S.edge u p ≡ none
  pub leads : (to m : ℕ) → o ≡ some (to, m) → (e : Edge (Ranked 1)) → S.edge u p ≡ some e → e.target ≡ t + to
  pub kept : (to m : ℕ) → o ≡ some (to, m) → (ps : List Pair) (d : Ranked 1) → path_cost S (t + to) ps ≡ some d → Below (Makes xs u m (counts_of xs (t + to))) k
      → S.edge u p ≡ some (record { target = t + to; cost = (count_at 6 k (marks_cost m), 1) })
  pub dropped : (to m : ℕ) → o ≡ some (to, m) → (ps : List Pair) (d : Ranked 1) → path_cost S (t + to) ps ≡ some d → (i : ℕ) → i < k → ¬ (Makes xs u m (counts_of xs (t + to)) i) → S.edge u p ≡ none
