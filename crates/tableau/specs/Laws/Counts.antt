-- Six counts compared, and profiles as six counts. Assumes nothing.
use Rattle.std.specs.Prelude.{◌≡◌, ◌↔◌, ◌-◌, ◌<◌, ◌≤◌}
use Rattle.basics.proofs.Words.{sym, ◌∙◌, ap, true, List, ℕ, arith, length, get_or, replicate, List·getD-append, eqb, ext_get_or, every_at}
use borrow.Author.Tests.{eqb-true}
use Rattle.ranking.specs.declared.Order.TheVariants.{Equal}
use Rattle.ranking.specs.Rankings.{is_ranking}
use Rattle.ranking.specs.Harmony.{harmony}
use Rattle.ranking.specs.HarmonicInequality.{equal_means}
use Rattle.candidate.specs.Evaluating.{profile_with}
use Rattle.tableau.specs.Judging.{same_counts}

module _ (v w : List ℕ) where
  pub same_at : same_counts v w ≡ true → (m : ℕ) → m < 6 → get_or v m 0 ≡ get_or w m 0
  unfolding same_counts
  same_at t m h = eqb-true (get_or v m 0) (get_or w m 0) (every_at (λ i. eqb (get_or v i 0) (get_or w i 0)) 6 t m h)

-- a count of a profile, among six
count_of : (p : List ℕ) (m : ℕ) → m < length p → get_or (profile_with p).counts m 0 ≡ get_or p m 0
count_of p m h = List·getD-append p (replicate (6 - length p) 0) 0 m h

-- counts that are the profile v are the profile w exactly when comparing v with w says equal
pub equal_counts : (K : ℕ) (r counts v w : List ℕ) → K ≤ 6 → is_ranking K r ≡ true → length v ≡ K → length w ≡ K → same_counts counts (profile_with v).counts ≡ true
    → (same_counts counts (profile_with w).counts ≡ true) ↔ (harmony r v w ≡ Equal)
equal_counts K r counts v w few ranks lv lw s = (to, back)
  where
    to : same_counts counts (profile_with w).counts ≡ true → harmony r v w ≡ Equal
    to t =
        (equal_means K r ranks v w).1 (λ m h.
        sym (count_of v m (omega arith)) ∙ sym (same_at counts (profile_with v).counts s m (omega arith))
        ∙ same_at counts (profile_with w).counts t m (omega arith) ∙ count_of w m (omega arith))

    back : harmony r v w ≡ Equal → same_counts counts (profile_with w).counts ≡ true
    back e =
        let agree = (equal_means K r ranks v w).0 e in
        let q : v ≡ w = ext_get_or 0 v w (lv ∙ sym lw) (λ m h. agree m (omega arith)) in
        ap (λ (p : List ℕ). same_counts counts (profile_with p).counts) (sym q) ∙ s
