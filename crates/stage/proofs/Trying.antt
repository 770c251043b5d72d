-- Laws of trying an arc.
use Rattle.std.specs.Prelude.{◌≡◌, ◌≢◌, ◌+◌, ◌≤◌, ◌<◌}
use Rattle.basics.specs.Words.{refl, sym, ◌∙◌, subst, Bool, true, false, false≢true, List, ℕ, length}
use Rattle.paths.specs.Ranked.{Less, less_total}
use Rattle.paths.specs.Improvement.{Falls, improves_falls}
use Rattle.stage.specs.StageLabels.{count_of, stage_label, total}
use Rattle.stage.specs.Relaxing.{ArcTried, unlabelled, dropped, lowered}

-- what trying an arc of u leaves of the slice
pub record StepFacts (xs ys : List ℕ) (k u : ℕ) (r : Bool) : Type 0 where
  pub size : length ys ≡ length xs
  pub counts : (i w : ℕ) → i < k → count_of ys i w ≡ count_of xs i w
  pub others : (w : ℕ) → w ≢ u → stage_label ys k w ≡ stage_label xs k w
  pub same : r ≡ false → ys ≡ xs
  pub less : r ≡ true → (b P : ℕ) → b ≤ u → u < b + P → total (stage_label ys k) b P < total (stage_label xs k) b P

pub facts_same : {xs ys : List ℕ} {k u : ℕ} {r : Bool} → r ≡ false → ys ≡ xs → StepFacts xs ys k u r
facts_same {xs} {ys} {k} {u} {r} q e = subst (λ (zs : List ℕ). StepFacts xs zs k u r) (sym e) (record { size = refl; counts = λ i w h. refl; others = λ w n. refl; same = λ _. refl; less = λ z. absurd (false≢true (sym q ∙ z)) })

pub arc_facts : {xs ys : List ℕ} {u v m k : ℕ} {r : Bool} → ArcTried xs ys u v m k r → StepFacts xs ys k u r
arc_facts (unlabelled l q e) = facts_same q e
arc_facts (dropped d l i h n q e) = facts_same q e
arc_facts (lowered d l f L) = record { size = L.size; counts = L.counts; others = L.label.others; same = L.same; less = L.less }

pub arc_falls : {xs ys : List ℕ} {u v m k : ℕ} {r : Bool} → ArcTried xs ys u v m k r → Falls (Less 1) (stage_label xs k) (stage_label ys k)
arc_falls {xs} {ys} {k = k} (unlabelled l q e) = subst (λ (zs : List ℕ). Falls (Less 1) (stage_label xs k) (stage_label zs k)) (sym e) (λ w c m. m)
arc_falls {xs} {ys} {k = k} (dropped d l i h n q e) = subst (λ (zs : List ℕ). Falls (Less 1) (stage_label xs k) (stage_label zs k)) (sym e) (λ w c m. m)
arc_falls (lowered d l f L) = improves_falls (less_total 1) L.label
