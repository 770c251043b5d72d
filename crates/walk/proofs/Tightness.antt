-- A step keeps to the labels by its numbers exactly if its edge does. Assumes nothing.
use Rattle.std.specs.Prelude.{◌≡◌, ◌+◌, ◌/◌, ◌%◌, ◌<◌}
use Rattle.basics.specs.Words.{refl, sym, ◌∙◌, ap, List, Option, some, none, Option·none-ne-some, ℕ, arith, dec_lt}
use Rattle.machine.specs.declared.Pair.{Pair}
use Rattle.paths.specs.Costs.{Labels}
use Rattle.paths.specs.Ranked.{Ranked, add, ranked_costs}
use Rattle.paths.specs.Graph.{Edge, Graph}
use Rattle.paths.specs.Walk.{Tight, no_edge_not_tight}
use Rattle.product.specs.ProductGraph.{Move, pairs}
use Rattle.product.specs.Laws.Codes.{priced_step}
use Rattle.cells.specs.declared.Cell.{Cell}
use Rattle.cells.specs.Cells.{nowhere, high_of, low_of}
use Rattle.cells.specs.Columns.{weighed, JointCell}
use Rattle.cells.specs.Trying.{label_from, OwnCell, cell_price, step_cost}
use Rattle.cells.specs.Laws.Weighed.{weighed_whole}
use Rattle.cells.specs.Laws.Trying.{label_there, label_none}
use Rattle.tight.specs.Keeping.{KeepsBy}

-- the label of a cell
pub record LabelIs (x : Cell) (c : Ranked 1) : Type 0 where
  pub there : x.high < nowhere
  pub high : c.0 ≡ x.high / 256
  pub low : c.1 ≡ x.low

pub label_is : (x : Cell) (c : Ranked 1) → label_from x ≡ some c → LabelIs x c
label_is x c e = go (dec_lt x.high nowhere)
  where
    go : Dec (x.high < nowhere) → LabelIs x c
    go (no n) = absurd (Option·none-ne-some c (sym (label_none x (omega arith)) ∙ e))
    go (yes h) =
        let z : ◌≡◌ {A = Ranked 1} (x.high / 256, x.low) c = cc (label_there x h, e) in
        record { there = h; high = sym (ap (λ (r : ℕ × ℕ). r.0) z); low = sym (ap (λ (r : ℕ × ℕ). r.1) z) }

module _ {ws : List ℕ} (whole : (m : ℕ) → high_of ws m % 256 ≡ 0) {P : ℕ} {o : Option Move} {h l : ℕ} (J : JointCell ws P o h l) (G : Graph (ranked_costs 1) pairs) (L : Labels (ranked_costs 1)) (u base : ℕ) (p : Pair)
    (edge_is : G.edge u p ≡ priced_step (cell_price ws) base o) (cells : ℕ → Cell) (owns : (c : ℕ) → c < P → OwnCell (cells c)) (are : (c : ℕ) → c < P → L (base + c) ≡ label_from (cells c))
    (x : Cell) (X : OwnCell x) (c : Ranked 1) (own_is : L u ≡ some c) (cell-is : label_from x ≡ some c) where
  -- the edge leads to the code in the step's last byte, and its label is what is left
  pub record TightTo : Type 0 where
    pub tight : Tight G L u p
    pub move : Move
    pub move_is : o ≡ some move
    pub code : h % 256 ≡ move.target
    pub target : tight.to.target ≡ base + h % 256
    pub rest : label_from (cells (h % 256)) ≡ some tight.rest

  pub keeps_tight : KeepsBy x (cells (h % 256)) h l → TightTo
  keeps_tight b = go o refl
    where
      go : (k : Option Move) → o ≡ k → TightTo
      go none e = absurd (omega (arith, J.nothing e, b.step))
      go (some v) e =
          let t : h % 256 ≡ v.target = J.target v e in
          let n : h % 256 < P = J.code in
          let y = cells (h % 256) in
          let Y = owns (h % 256) n in
          let I = label_is x c cell-is in
          let w = weighed_whole (high_of ws) whole 0 v.marks in
          let s : y.high + weighed (high_of ws) 0 v.marks ≡ x.high = omega (arith, b.high_sum, J.high v e, t) in
          let yl : label_from y ≡ some (y.high / 256, y.low) = label_there y (omega (arith, s, I.there)) in
          let a : c.0 ≡ weighed (λ m. high_of ws m / 256) 0 v.marks + y.high / 256 = omega (arith, I.high, s, w, X.last, Y.last) in
          let d : c.1 ≡ weighed (low_of ws) 0 v.marks + 1 + y.low = omega (arith, I.low, b.low_sum, J.low v e) in
          let q : c ≡ add 1 (step_cost ws v.marks) (y.high / 256, y.low) = λ i. (a i, d i) in
          record {
            tight = record {
              to = record { target = base + v.target; cost = step_cost ws v.marks };
              rest = (y.high / 256, y.low);
              edge_is = edge_is ∙ ap (priced_step (cell_price ws) base) e;
              rest_is = ap (λ (n : ℕ). L (base + n)) (sym t) ∙ are (h % 256) n ∙ yl;
              label_is = own_is ∙ ap {B = Option (Ranked 1)} some q;
            };
            move = v;
            move_is = e;
            code = t;
            target = ap (λ (n : ℕ). base + n) (sym t);
            rest = yl;
          }

  pub tight_keeps : Tight G L u p → KeepsBy x (cells (h % 256)) h l
  tight_keeps t = go o refl
    where
      go : (k : Option Move) → o ≡ k → KeepsBy x (cells (h % 256)) h l
      go none e = absurd (no_edge_not_tight G L (edge_is ∙ ap (priced_step (cell_price ws) base) e) t)
      go (some v) e =
          let f : G.edge u p ≡ some (record { target = base + v.target; cost = step_cost ws v.marks }) = edge_is ∙ ap (priced_step (cell_price ws) base) e in
          let z : t.to ≡ record { target = base + v.target; cost = step_cost ws v.marks } = cc (t.edge_is, f) in
          let g : h % 256 ≡ v.target = J.target v e in
          let y = cells (h % 256) in
          let n : h % 256 < P = J.code in
          let r : label_from y ≡ some t.rest = sym (are (h % 256) n) ∙ ap (λ (n : ℕ). L (base + n)) g ∙ ap (λ (e : Edge (Ranked 1)). L e.target) (sym z) ∙ t.rest_is in
          let I = label_is x c cell-is in
          let R = label_is y t.rest r in
          let k : c ≡ add 1 t.to.cost t.rest = cc (own_is, t.label_is) in
          let m : c ≡ add 1 (step_cost ws v.marks) t.rest = k ∙ ap (λ (e : Edge (Ranked 1)). add 1 e.cost t.rest) z in
          let a = ap (λ (r : Ranked 1). r.0) m in
          let d = ap (λ (r : Ranked 1). r.1) m in
          let w = weighed_whole (high_of ws) whole 0 v.marks in
          record {
            step = J.there v e;
            high_sum = omega (arith, a, w, I.high, R.high, X.last, (owns (h % 256) n).last, J.high v e, g);
            low_sum = omega (arith, d, I.low, R.low, J.low v e);
          }
