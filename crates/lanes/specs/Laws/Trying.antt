-- Trying a step: a label stays as it is where there is no step or no label to go on from, and is the lesser of both else. With these three laws
-- `paths/Positions.entering-no-edge`, `entering-unlabelled` and `entering-letter` take a lane each.
use Rattle.std.specs.Prelude.{◌≡◌, ◌⊎◌, ◌+◌, ◌/◌, ◌%◌, ◌<◌, ◌≤◌}
use Rattle.basics.specs.Words.{sym, ◌∙◌, ap, List, Option, some, none, Option·none-ne-some, inl, inr, ℕ, arith, dec_lt}
use Rattle.paths.specs.Total.{Upto}
use Rattle.paths.specs.Costs.{AtMost, Above, Lowers, kept, lowered}
use Rattle.paths.specs.Ranked.{Ranked, add, Less}
use Rattle.product.specs.ProductGraph.{Move}
use Rattle.cells.specs.declared.Cell.{Cell}
use Rattle.cells.specs.Cells.{nowhere, high_of, low_of}
use Rattle.cells.specs.Columns.{weighed, JointCell}
use Rattle.cells.specs.Labels.{no_label, cell_at}
use Rattle.cells.specs.Trying.{label_from, OwnCell, next_cell, step_cost}
use Rattle.cells.specs.Laws.Weighed.{weighed_whole}
use Rattle.cells.specs.Laws.Trying.{label_there, label_none}
use Rattle.lanes.specs.Trying.{lesser, way_by}
use Rattle.lanes.specs.Laws.Least.{keeps_high, keeps_low, falls_high, falls_low}

-- ---- the lesser of two cells

-- a way that is none
pub keeps_nothing : (w x : Cell) → OwnCell x → no_label ≤ w.high → lesser w x ≡ x
keeps_nothing w x X h = go (dec_lt x.high w.high)
  where
    go : Dec (x.high < w.high) → lesser w x ≡ x
    go (yes k) = keeps_high w x k
    go (no k) = keeps_low w x (omega (arith, X.most)) (omega (arith, X.empty (omega (arith, X.most))))

-- a way that is one
module _ (w x : Cell) (X : OwnCell x) (last : w.high % 256 ≡ 255) (there : w.high < nowhere) where
  cost : Ranked 1
  cost = (w.high / 256, w.low)

  below : w.high < x.high → w.high / 256 < x.high / 256
  below h = omega (arith, X.last)

  above : (x.high < nowhere → (w.high / 256 < x.high / 256) ⊎ ((w.high / 256 ≡ x.high / 256) × (w.low < x.low))) → Above (Less 1) (label_from x) (w.high / 256, w.low)
  above f a e = go (dec_lt x.high nowhere)
    where
      go : Dec (x.high < nowhere) → Less 1 (w.high / 256, w.low) a
      go (yes k) =
          let z : ◌≡◌ {A = Ranked 1} (x.high / 256, x.low) a = cc (label_there x k, e) in
          let p : x.high / 256 ≡ a.0 = ap (λ (r : ℕ × ℕ). r.0) z in
          let q : x.low ≡ a.1 = ap (λ (r : ℕ × ℕ). r.1) z in
          pick p q (f k)
        where
          pick : x.high / 256 ≡ a.0 → x.low ≡ a.1 → (w.high / 256 < x.high / 256) ⊎ ((w.high / 256 ≡ x.high / 256) × (w.low < x.low)) → Less 1 (w.high / 256, w.low) a
          pick p q (inl h) = inl (omega arith)
          pick p q (inr h) = inr (h.0 ∙ p, omega (arith, h.1))
      go (no k) = absurd (Option·none-ne-some a (sym (label_none x (omega arith)) ∙ e))

  atmost : x.high < nowhere → Upto (Less 1) (x.high / 256, x.low) (w.high / 256, w.low) → AtMost (Less 1) (label_from x) (w.high / 256, w.low)
  atmost k u = record { val = (x.high / 256, x.low); is = label_there x k; upto = u }

  pub lesser_lowers : Lowers (Less 1) (label_from x) (w.high / 256, w.low) (label_from (lesser w x))
  lesser_lowers = high (dec_lt w.high x.high)
    where
      same : (e : w.high ≡ x.high) → Dec (w.low < x.low) → Lowers (Less 1) (label_from x) (w.high / 256, w.low) (label_from (lesser w x))
      same e (yes h) = lowered (above (λ k. inr (ap (λ (n : ℕ). n / 256) e, h))) (ap label_from (falls_low w x e h) ∙ label_there w there)
      same e (no h) = kept (atmost (omega arith) (upto (dec_lt x.low w.low))) (ap label_from (keeps_low w x e (omega arith)))
        where
          upto : Dec (x.low < w.low) → Upto (Less 1) (x.high / 256, x.low) (w.high / 256, w.low)
          upto (yes l) = inl (inr (ap (λ (n : ℕ). n / 256) (sym e), l))
          upto (no l) =
              let p : x.high / 256 ≡ w.high / 256 = ap (λ (n : ℕ). n / 256) (sym e) in
              let q : x.low ≡ w.low = omega arith in
              inr (λ i. (p i, q i))

      more : Dec (x.high < w.high) → w.high < x.high ⊎ (x.high ≤ w.high) → Lowers (Less 1) (label_from x) (w.high / 256, w.low) (label_from (lesser w x))
      more (yes h) t = kept (atmost (omega arith) (inl (inl (omega (arith, X.last))))) (ap label_from (keeps_high w x h))
      more (no h) (inl t) = lowered (above (λ k. inl (below t))) (ap label_from (falls_high w x t) ∙ label_there w there)
      more (no h) (inr t) = same (omega arith) (dec_lt w.low x.low)

      high : Dec (w.high < x.high) → Lowers (Less 1) (label_from x) (w.high / 256, w.low) (label_from (lesser w x))
      high (yes h) = more (dec_lt x.high w.high) (inl h)
      high (no h) = more (dec_lt x.high w.high) (inr (omega arith))

  pub lesser_own : OwnCell (lesser w x)
  lesser_own = high (dec_lt w.high x.high) (dec_lt x.high w.high) (dec_lt w.low x.low)
    where
      way : OwnCell w
      way = record { last = last; most = omega arith; empty = λ e. absurd (omega arith) }

      high : Dec (w.high < x.high) → Dec (x.high < w.high) → Dec (w.low < x.low) → OwnCell (lesser w x)
      high (yes h) d l = rw (falls_high w x h) way
      high (no h) (yes k) l = rw (keeps_high w x k) X
      high (no h) (no k) (yes l) = rw (falls_low w x (omega arith) l) way
      high (no h) (no k) (no l) = rw (keeps_low w x (omega arith) (omega arith)) X

-- ---- a step of a code

module _ {ws : List ℕ} (whole : (m : ℕ) → high_of ws m % 256 ≡ 0) {P : ℕ} {o : Option Move} {h l : ℕ} (J : JointCell ws P o h l) (few : P ≤ 128) (next : List ℕ) (N : (t : ℕ) → t < P → OwnCell (next_cell next t)) where
  its_code : h % 128 ≡ h % 256
  its_code = omega (arith, J.code)

  way_high : (way_by next h l).high ≡ h + (cell_at next (h % 256)).high
  way_high = ap (λ (t : ℕ). h + (cell_at next t).high) its_code

  -- no arc takes the pair
  pub no_step_keeps : o ≡ none → (x : Cell) → OwnCell x → lesser (way_by next h l) x ≡ x
  no_step_keeps e x X =
      let n = N (h % 256) J.code in
      keeps_nothing (way_by next h l) x X (omega (arith, way_high, J.nothing e, n.last))

  -- the code led to has no label
  pub no_label_keeps : nowhere ≤ (next_cell next (h % 256)).high → (x : Cell) → OwnCell x → lesser (way_by next h l) x ≡ x
  no_label_keeps k x X =
      let n = N (h % 256) J.code in
      keeps_nothing (way_by next h l) x X (omega (arith, way_high, n.last, n.most))

  -- a step to the code v .target, which has a label
  module _ (v : Move) (e : o ≡ some v) (fits : (way_by next h l).high < nowhere) where
    code_led_to : h % 256 ≡ v.target
    code_led_to = J.target v e

    pub way_last : (way_by next h l).high % 256 ≡ 255
    way_last = let n = N (h % 256) J.code in omega (arith, way_high, n.last)

    pub way_cost : ◌≡◌ {A = Ranked 1} ((way_by next h l).high / 256, (way_by next h l).low) (add 1 (step_cost ws v.marks) ((next_cell next v.target).high / 256, (next_cell next v.target).low))
    way_cost =
        let n = N (h % 256) J.code in
        let p : (way_by next h l).high / 256 ≡ weighed (λ m. high_of ws m / 256) 0 v.marks + (next_cell next (h % 256)).high / 256 = omega (arith, weighed_whole (high_of ws) whole 0 v.marks, way_high, n.last, J.high v e, code_led_to) in
        let q : (way_by next h l).low ≡ weighed (low_of ws) 0 v.marks + 1 + (next_cell next (h % 256)).low = omega (arith, ap (λ (t : ℕ). (cell_at next t).low) its_code, J.low v e) in
        let r : (way_by next h l).high / 256 ≡ weighed (λ m. high_of ws m / 256) 0 v.marks + (next_cell next v.target).high / 256 = p ∙ ap (λ (t : ℕ). weighed (λ m. high_of ws m / 256) 0 v.marks + (next_cell next t).high / 256) code_led_to in
        let s : (way_by next h l).low ≡ weighed (low_of ws) 0 v.marks + 1 + (next_cell next v.target).low = q ∙ ap (λ (t : ℕ). weighed (low_of ws) 0 v.marks + 1 + (next_cell next t).low) code_led_to in
        λ i. (r i, s i)

    pub step_lowers : (x : Cell) → OwnCell x → Lowers (Less 1) (label_from x) (add 1 (step_cost ws v.marks) ((next_cell next v.target).high / 256, (next_cell next v.target).low)) (label_from (lesser (way_by next h l) x))
    step_lowers x X = rw way_cost at (lesser_lowers (way_by next h l) x X way_last fits)

    pub step_own : (x : Cell) → OwnCell x → OwnCell (lesser (way_by next h l) x)
    step_own x X = lesser_own (way_by next h l) x X way_last fits
