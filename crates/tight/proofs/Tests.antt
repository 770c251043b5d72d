-- Whether a step keeps to the labels, as the test finds out; the least output. Assumes nothing.
use Rattle.std.specs.Prelude.{◌≡◌, ◌&&◌, ◌+◌, ◌%◌, ◌<◌, ◌≤◌, Some, None}
use Rattle.basics.proofs.Words.{refl, sym, ◌∙◌, ap, Bool, true, false, not, List, ℕ, arith, eqb, member, eqb-true, eq-eqb, left, right, both, clash, no_member}
use Rattle.machine.specs.SymbolSets.{least_symbol}
use Rattle.machine.specs.Laws.SymbolSets.{below_least}
use Rattle.machine.specs.Laws.SetLoops.{with_true}
use Rattle.cells.specs.declared.Cell.{Cell}
use Rattle.cells.specs.Cells.{nowhere}
use Rattle.tight.specs.Labels.{cell_of}
use Rattle.tight.specs.Joint.{high_by, JointAt}
use Rattle.tight.specs.Keeping.{KeepsBy, LeadsOn, KeepsPre, KeepsAt, LeastPre, LeastOf}

-- ---- the test

module _ (x y : Cell) (h l : ℕ) where
  abbrev test : Bool
  test = eqb (y.high + h) (x.high + h % 256) && eqb (y.low + l + 1) x.low

  pub test_keeps : h < nowhere → test ≡ true → KeepsBy x y h l
  test_keeps k t = record {
    step = k;
    high_sum = eqb-true (y.high + h) (x.high + h % 256) (left _ (eqb (y.low + l + 1) x.low) t);
    low_sum = eqb-true (y.low + l + 1) x.low (right (eqb (y.high + h) (x.high + h % 256)) _ t);
  }

  pub keeps_test : test ≡ false → ¬ (KeepsBy x y h l)
  keeps_test t b = clash (both (eq-eqb (y.high + h) (x.high + h % 256) b.high_sum) (eq-eqb (y.low + l + 1) x.low b.low_sum)) t

-- no joint step, nothing kept
pub not_keeps : (x : Cell) (ranked sums steps ps ws : List ℕ) (base W y : ℕ) → nowhere ≤ high_by steps ps ws W y → ¬ (KeepsAt x ranked sums steps ps ws base W y)
not_keeps x ranked sums steps ps ws base W y n b = omega (arith, b.step)

-- ---- by a joint step that stands for the sums

module _ (ranked sums : List ℕ) (base : ℕ) {steps ps ws : List ℕ} {W y : ℕ} {step : Cell} (J : JointAt steps ps ws W y step) {x : Cell} where
  module _ (k : step.high < nowhere) where
    pub step_leads : LeastPre x ranked sums steps ps ws base W → y ≤ 64 → LeadsOn ranked sums base step.high step.low
    step_leads pre h = let a = J.high k in let b = J.low k in rw (a, b) (pre.leads y h (omega arith))

    pub step_pre : LeastPre x ranked sums steps ps ws base W → y ≤ 64 → (r : Cell) → r ≡ cell_of ranked sums (base + step.high % 256) → KeepsPre x r step
    step_pre pre h r e = let L = step_leads pre h in record { label = pre.label; there = k; fits = rw e L.fits; low_few = L.low_few }

    pub step_keeps : (r : Cell) → r ≡ cell_of ranked sums (base + step.high % 256) → KeepsBy x r step.high step.low → KeepsAt x ranked sums steps ps ws base W y
    step_keeps r e b = let p = J.high k in let q = J.low k in rw (← p, ← q, ← e) b

    pub keeps_step : (r : Cell) → r ≡ cell_of ranked sums (base + step.high % 256) → KeepsAt x ranked sums steps ps ws base W y → KeepsBy x r step.high step.low
    keeps_step r e b = let p = J.high k in let q = J.low k in rw (e, p, q) b

-- ---- output by output

-- no output of the set that is not left keeps to the labels
pub record Trying (x : Cell) (ranked sums steps ps ws : List ℕ) (base W outputs left : ℕ) : Type 0 where
  pub inside : (y : ℕ) → member left y ≡ true → member outputs y ≡ true
  pub passed : (y : ℕ) → member outputs y ≡ true → member left y ≡ false → y < 64 → ¬ (KeepsAt x ranked sums steps ps ws base W y)

module _ {x : Cell} {ranked sums steps ps ws : List ℕ} {base W outputs : ℕ} where
  pub trying_start : Trying x ranked sums steps ps ws base W outputs outputs
  trying_start = record { inside = λ y m. m; passed = λ y m n b k. clash m n }

  module _ {set : ℕ} (T : Trying x ranked sums steps ps ws base W outputs set) where
    pub trying_end : set ≤ 0 → LeastOf x ranked sums steps ps ws base W outputs None
    trying_end z y h m = T.passed y m (let e : set ≡ 0 = omega arith in rw e (no_member y)) h

    module _ (y : ℕ) (is : y ≡ least_symbol set) (few : y < 64) (there : member set y ≡ true) where
      pub trying_found : {step : Cell} (J : JointAt steps ps ws W y step) (r : Cell) → r ≡ cell_of ranked sums (base + step.high % 256) → KeepsBy x r step.high step.low
          → LeastOf x ranked sums steps ps ws base W outputs (Some (record { output = y; code = step.high % 256; high = r.high; low = r.low }))
      trying_found {step} J r e b = record {
        few = few;
        inside = T.inside y there;
        keeps = step_keeps ranked sums base J b.step r e b;
        code = ap (λ (n : ℕ). n % 256) (J.high b.step);
        label = e;
        passed = λ z h m. T.passed z m (below_least 64 set z (omega (arith, is))) (omega arith);
      }

      pub trying_next : ¬ (KeepsAt x ranked sums steps ps ws base W y) → (after : ℕ) → ((n : ℕ) → member after n ≡ (member set n && not (eqb n (least_symbol set)))) → Trying x ranked sums steps ps ws base W outputs after
      trying_next n after f = record { inside = λ z m. T.inside z (left (member set z) (not (eqb z (least_symbol set))) (sym (f z) ∙ m)); passed = passed }
        where
          passed : (z : ℕ) → member outputs z ≡ true → member after z ≡ false → z < 64 → ¬ (KeepsAt x ranked sums steps ps ws base W z)
          passed z m a h b = go (eqb z (least_symbol set)) refl
            where
              go : (t : Bool) → eqb z (least_symbol set) ≡ t → ⊥
              go true g = let e : z ≡ y = eqb-true z (least_symbol set) g ∙ sym is in n (rw e at b)
              go false g = T.passed z m (sym (f z ∙ ap (λ (t : Bool). member set z && not t) g ∙ with_true (member set z)) ∙ a) h b
