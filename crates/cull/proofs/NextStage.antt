-- From stage to stage, and from the last one to the labels for the whole cost.
use Rattle.std.specs.Prelude.{◌≡◌, ◌+◌, ◌*◌, ◌<◌}
use Rattle.basics.specs.Words.{refl, sym, ◌∙◌, ap, subst, List, Option, none, some, Option·none-ne-some, Option·map, ℕ, zero, suc, arith, get_or, ℕ_discrete}
use Rattle.paths.specs.Costs.{atmost_none}
use Rattle.paths.specs.Bounds.{Sized}
use Rattle.paths.specs.Ranked.{Ranked, letter_count, count_at, ranked_costs, count_at_add}
use Rattle.paths.specs.Graph.{Graph, run→cost, cost→run}
use Rattle.paths.specs.Labels.{Closed, Attained, run_lower_bound, held→run}
use Rattle.tables.specs.Work.{state_of, cost_at, label_of}
use Rattle.tables.proofs.Work.{labelled, unlabelled}
use Rattle.product.specs.ProductGraph.{pairs}
use Rattle.cull.specs.Cull.{left, FewestBelow, places, survivors, way_left}
use Rattle.cull.specs.Left.{left_same, fewest_same}
use Rattle.cull.specs.OneConstraint.{price, stage_marks, LeastPrices, labels_least, run_seen}
use Rattle.cull.specs.Stages.{left_sized, stage}
use Rattle.cull.specs.CullLabels.{PutTogether, cull_closed, cull_attained}
use Rattle.stage.specs.StageLabels.{count_of, pair_count_of, stage_label}
use Rattle.cull.specs.FewestTold.{fewest_in}
use Rattle.stage.proofs.StageWork.{stage_labelled, stage_unlabelled}
use Rattle.cull.proofs.Linking.{has_count, whole_way}

-- ---- what a label of a stage says of the slice

module _ (xs : List ℕ) (k u : ℕ) where
  pub stage_count_told : (m : ℕ) → fewest_in xs k u ≡ some m → count_of xs k u ≡ m
  stage_count_told m h = go (ℕ_discrete (state_of xs u) 0)
    where
      go : Dec (state_of xs u ≡ 0) → count_of xs k u ≡ m
      go (yes e) = absurd (Option·none-ne-some m (sym (ap stage_marks (stage_unlabelled xs k u e)) ∙ h))
      go (no n) = let q : some (count_of xs k u) ≡ some m = sym (ap stage_marks (stage_labelled xs k u n)) ∙ h in cc

-- ---- a stage is done: the slice tells the fewest marks that its labels rest on

module _ (G : Graph (ranked_costs 6) pairs) (Z : Sized G (letter_count 6)) (fewest : ℕ → ℕ → Option ℕ) (k : ℕ) (F : FewestBelow G (count_at 6) fewest k)
    (xs : List ℕ) (told : (i u m : ℕ) → i < k → fewest i u ≡ some m → count_of xs i u ≡ m)
    (C : Closed (stage 6 G Z fewest k) (stage_label xs k)) (A : Attained (stage 6 G Z fewest k) (stage_label xs k)) where
  abbrev S : Graph (ranked_costs 1) pairs
  S = stage 6 G Z fewest k

  abbrev H : Graph (ranked_costs 6) pairs
  H = left G (count_at 6) fewest k

  -- a node with no label has no way
  none_there : (u i : ℕ) → i < k → stage_label xs k u ≡ none → (o : Option ℕ) → fewest i u ≡ o → o ≡ none
  none_there u i l n none e = refl
  none_there u i l n (some m) e =
      let w = (F i l).attained u m e in
      let g = ((survivors G (count_at 6) fewest (count_at_add 6) i (λ j a. F j (omega arith)) u w.letters w.cost).0 w.is).0 in
      let v = way_left G (count_at 6) fewest (count_at_add 6) k F u w.letters w.cost g in
      absurd (atmost_none n (run_lower_bound S C (run_seen 6 k H (left_sized 6 G Z fewest k) (cost→run H u v.0 v.1 v.2))))

  -- and one with a label has one
  slice_tells : (i : ℕ) → i < k → (u : ℕ) → Dec (state_of xs u ≡ 0) → fewest i u ≡ fewest_in xs i u
  slice_tells i l u (yes e) = none_there u i l (stage_unlabelled xs k u e) (fewest i u) refl ∙ sym (ap stage_marks (stage_unlabelled xs i u e))
  slice_tells i l u (no n) =
      let a = A u (count_of xs k u, pair_count_of xs u) (stage_labelled xs k u n) in
      let w = whole_way G Z fewest k F xs told u a.letters (count_of xs k u, pair_count_of xs u) (run→cost S (held→run S a.held)) in
      has_count G Z fewest k F xs told u a.letters w.0 w.1 i l ∙ sym (ap stage_marks (stage_labelled xs i u n))

  same_fewest : (i : ℕ) → i < k → fewest i ≡ fewest_in xs i
  same_fewest i l = λ j u. slice_tells i l u (ℕ_discrete (state_of xs u) 0) j

  pub fewest_told : FewestBelow G (count_at 6) (fewest_in xs) k
  fewest_told = fewest_same G (count_at 6) fewest (fewest_in xs) k same_fewest F

  pub least_told : LeastPrices 6 k (left G (count_at 6) (fewest_in xs) k) (stage_label xs k)
  least_told = subst (λ (B : Graph (ranked_costs 6) pairs). LeastPrices 6 k B (stage_label xs k)) (left_same G (count_at 6) fewest (fewest_in xs) k same_fewest) (labels_least 6 k H (left_sized 6 G Z fewest k) C A)

-- ---- after the last stage

count_at_lem : (xs : List ℕ) (u i : ℕ) → i < 6 → count_at 6 i (cost_at xs u) ≡ count_of xs i u
count_at_lem xs u zero h = let q : u * 8 + 1 ≡ u * 8 + 1 + 0 = omega arith in ap (λ (j : ℕ). get_or xs j 0) q
count_at_lem xs u (suc zero) h = let q : u * 8 + 2 ≡ u * 8 + 1 + 1 = omega arith in ap (λ (j : ℕ). get_or xs j 0) q
count_at_lem xs u (suc (suc zero)) h = let q : u * 8 + 3 ≡ u * 8 + 1 + 2 = omega arith in ap (λ (j : ℕ). get_or xs j 0) q
count_at_lem xs u (suc (suc (suc zero))) h = let q : u * 8 + 4 ≡ u * 8 + 1 + 3 = omega arith in ap (λ (j : ℕ). get_or xs j 0) q
count_at_lem xs u (suc (suc (suc (suc zero)))) h = let q : u * 8 + 5 ≡ u * 8 + 1 + 4 = omega arith in ap (λ (j : ℕ). get_or xs j 0) q
count_at_lem xs u (suc (suc (suc (suc (suc zero))))) h = let q : u * 8 + 6 ≡ u * 8 + 1 + 5 = omega arith in ap (λ (j : ℕ). get_or xs j 0) q
count_at_lem xs u (suc (suc (suc (suc (suc (suc i)))))) h = absurd (omega arith)

module _ (G : Graph (ranked_costs 6) pairs) (xs : List ℕ) (F : FewestBelow G (count_at 6) (fewest_in xs) 5) (M : LeastPrices 6 5 (left G (count_at 6) (fewest_in xs) 5) (stage_label xs 5)) where
  together : PutTogether 6 5 (fewest_in xs) (stage_label xs 5) (label_of xs)
  together = record { before = λ u i l. before u i l (ℕ_discrete (state_of xs u) 0); last = λ u. last u (ℕ_discrete (state_of xs u) 0) }
    where
      before : (u i : ℕ) → i < 5 → Dec (state_of xs u ≡ 0) → fewest_in xs i u ≡ places (count_at 6) (label_of xs) i u
      before u i l (yes e) = ap stage_marks (stage_unlabelled xs i u e) ∙ sym (ap (Option·map (count_at 6 i)) (unlabelled xs u e))
      before u i l (no n) = ap stage_marks (stage_labelled xs i u n) ∙ ap some (sym (count_at_lem xs u i (omega arith))) ∙ sym (ap (Option·map (count_at 6 i)) (labelled xs u n))

      last : (u : ℕ) → Dec (state_of xs u ≡ 0) → stage_label xs 5 u ≡ Option·map (price 6 5) (label_of xs u)
      last u (yes e) = stage_unlabelled xs 5 u e ∙ sym (ap (Option·map (price 6 5)) (unlabelled xs u e))
      last u (no n) = stage_labelled xs 5 u n ∙ ap {B = Option (Ranked 1)} (λ (n : ℕ). some (n, pair_count_of xs u)) (sym (count_at_lem xs u 5 (omega arith))) ∙ sym (ap (Option·map (price 6 5)) (labelled xs u n))

  pub last_closed : Closed G (label_of xs)
  last_closed = cull_closed 6 G (fewest_in xs) 5 (omega arith) F (stage_label xs 5) M (label_of xs) together

  pub last_attained : Attained G (label_of xs)
  last_attained = cull_attained 6 G (fewest_in xs) 5 (omega arith) F (stage_label xs 5) M (label_of xs) together
