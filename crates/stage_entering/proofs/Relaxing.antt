-- Laws of trying one joint step.
use Rattle.std.specs.Prelude.{◌≡◌, ◌+◌, ◌<◌}
use Rattle.basics.specs.Words.{sym, subst, Bool, List, Option, some, ℕ, arith}
use Rattle.machine.specs.declared.Pair.{Pair}
use Rattle.paths.specs.Ranked.{Ranked, Less, count_at, ranked_costs}
use Rattle.paths.specs.Graph.{Graph, path_cost, run→cost}
use Rattle.paths.specs.Labels.{Attained, held→run}
use Rattle.paths.specs.Improvement.{Falls}
use Rattle.tables.specs.Marks.{marks_cost}
use Rattle.product.specs.ProductGraph.{pairs}
use Rattle.stage.specs.StageLabels.{count_of, stage_label}
use Rattle.stage_entering.specs.Relaxation.{Relaxes, Only, relaxes_gone, relaxes_unlabelled, relaxes_edge}
use Rattle.stage.specs.Relaxing.{unlabelled, dropped, lowered, StepTried, nothing, arc, LinkedEntry}
use Rattle.stage.proofs.Trying.{StepFacts, facts_same, arc_facts, arc_falls}

-- ---- one step

pub step_facts : {xs ys : List ℕ} {o : Option (ℕ × ℕ)} {u t k : ℕ} {r : Bool} → StepTried xs ys o u t k r → StepFacts xs ys k u r
step_facts (nothing n q e) = facts_same q e
step_facts (arc to m s T) = arc_facts T

pub step_falls : {xs ys : List ℕ} {o : Option (ℕ × ℕ)} {u t k : ℕ} {r : Bool} → StepTried xs ys o u t k r → Falls (Less 1) (stage_label xs k) (stage_label ys k)
step_falls {xs} {k = k} (nothing n q e) = subst (λ (zs : List ℕ). Falls (Less 1) (stage_label xs k) (stage_label zs k)) (sym e) (λ w c m. m)
step_falls (arc to m s T) = arc_falls T

module _ (S : Graph (ranked_costs 1) pairs) {xs : List ℕ} {k u t : ℕ} {p : Pair} {o : Option (ℕ × ℕ)} (E : LinkedEntry S xs k u p t o) (A : Attained S (stage_label xs k)) where
  -- where nothing was done
  unchanged : {ys : List ℕ} → ys ≡ xs → Relaxes S (stage_label xs k) (stage_label xs k) (Only S u p) → Relaxes S (stage_label xs k) (stage_label ys k) (Only S u p)
  unchanged e R = subst (λ (zs : List ℕ). Relaxes S (stage_label xs k) (stage_label zs k) (Only S u p)) (sym e) R

  -- a labelled node has a way
  way : (v : ℕ) (d : Ranked 1) → stage_label xs k v ≡ some d → (ps : List Pair) × (path_cost S v ps ≡ some d)
  way v d l = let a = A v d l in (a.letters, run→cost S (held→run S a.held))

  pub step_relaxes : {ys : List ℕ} {r : Bool} → StepTried xs ys o u t k r → Relaxes S (stage_label xs k) (stage_label ys k) (Only S u p)
  step_relaxes (nothing n q e) = unchanged e (relaxes_gone S A u p (E.gone n))
  step_relaxes (arc to m s (unlabelled l q e)) = unchanged e (relaxes_unlabelled S A u p (t + to) l (E.leads to m s))
  step_relaxes (arc to m s (dropped d l i h n q e)) = let w = way (t + to) d l in unchanged e (relaxes_gone S A u p (E.dropped to m s w.0 d w.1 i h n))
  step_relaxes (arc to m s (lowered d l f L)) =
      let w = way (t + to) d l in
      relaxes_edge S A u p (record { target = t + to; cost = (count_at 6 k (marks_cost m), 1) }) d (E.kept to m s w.0 d w.1 f) l L.label

-- ---- the step stays linked while the counts below k stay

pub entry_kept : {S : Graph (ranked_costs 1) pairs} {xs ys : List ℕ} {k u t : ℕ} {p : Pair} {o : Option (ℕ × ℕ)} → ((i w : ℕ) → i < k → count_of ys i w ≡ count_of xs i w) → LinkedEntry S xs k u p t o → LinkedEntry S ys k u p t o
entry_kept {u = u} {t = t} C E = record {
  gone = E.gone;
  leads = E.leads;
  kept = λ to m s ps d w f. E.kept to m s ps d w (λ i j. omega (arith, f i j, C i u j, C i (t + to) j));
  dropped = λ to m s ps d w i j g. E.dropped to m s ps d w i j (λ z. g (omega (arith, z, C i u j, C i (t + to) j)));
}
