-- Dominance: where each weight is more than c times the sum of those ranked below it and no count is above c, the sums compare as the profiles do
-- under the ranking.
use Rattle.std.specs.Prelude.{◌≡◌, ◌∷◌, ◌+◌, ◌*◌, ◌<◌, ◌≤◌}
use Rattle.basics.proofs.Words.{refl, sym, ◌∙◌, ap, true, List, [], ℕ, zero, suc, arith, length, get_or, leb, ltb, mul-add, mul-suc, mul_comm, mul-le-mul_left, all_of, left, right}
use Rattle.std.proofs.Common.{leb-true, lt-ltb, le-ltb}
use Rattle.ranking.specs.Rankings.{is_ranking}
use Rattle.ranking.specs.Harmony.{is_better}
use Rattle.ranking.specs.Lemmas.Harmony.{Standing, fewer, same, more, standing, harmony_end, at_fewer, at_same, at_more}
use Rattle.product.specs.Best.{harmonic}
use Rattle.product.specs.Weights.{by_sum}
use Rattle.product.specs.Dominance.{sum_over, Outweighs}
use Rattle.product.specs.Laws.Sums.{sum_by_ranking}

-- no count above c, at any place
counts_at : (c : ℕ) (v : List ℕ) → all_of (λ n. leb n c) v ≡ true → (m : ℕ) → get_or v m 0 ≤ c
unfolding all_of
counts_at c [] h m = omega arith
counts_at c (n ∷ v) h zero = leb-true n c (left (leb n c) (all_of (λ n. leb n c) v) h)
counts_at c (n ∷ v) h (suc m) = counts_at c v (right (leb n c) (all_of (λ n. leb n c) v) h) m

-- the same added to both changes nothing
less_added : (n m a b : ℕ) → n ≡ m → ltb (n + a) (m + b) ≡ ltb a b
less_added n m a b e = go (standing a b)
  where
    go : Standing a b → ltb (n + a) (m + b) ≡ ltb a b
    go (fewer h) = lt-ltb (n + a) (m + b) (omega arith) ∙ sym (lt-ltb a b h)
    go (same h) = le-ltb (n + a) (m + b) (omega arith) ∙ sym (le-ltb a b (omega arith))
    go (more h) = le-ltb (n + a) (m + b) (omega arith) ∙ sym (le-ltb a b (omega arith))

module _ (c : ℕ) (weights : List ℕ) where
  abbrev sum_by : List ℕ → List ℕ → ℕ
  sum_by r v = sum_over (λ m. get_or weights m 0 * get_or v m 0) r

  -- a sum is at most c times the weights
  at_most : (r v : List ℕ) → ((m : ℕ) → get_or v m 0 ≤ c) → sum_by r v ≤ c * sum_over (λ m. get_or weights m 0) r
  unfolding sum_over
  at_most [] v h = omega arith
  at_most (m ∷ r) v h = omega (arith, at_most r v h, mul-le-mul_left (get_or weights m 0) (h m), mul_comm (get_or weights m 0) c, mul-add c (get_or weights m 0) (sum_over (λ i. get_or weights i 0) r))

pub dominance : (c : ℕ) (weights r v w : List ℕ) → is_ranking (length weights) r ≡ true → Outweighs c weights r
    → all_of (λ n. leb n c) v ≡ true → all_of (λ n. leb n c) w ≡ true → harmonic r v w ≡ by_sum weights v w
unfolding sum_over
dominance c weights r v w is d hv hw = rw (sum_by_ranking weights r v is, sum_by_ranking weights r w is) (by_ranking r v w d (counts_at c v hv) (counts_at c w hw))
  where
    -- fewer marks at the highest ranked machine make the smaller sum, whatever stands below
    head_decides : (m : ℕ) (r v w : List ℕ) → Outweighs c weights (m ∷ r) → ((m : ℕ) → get_or v m 0 ≤ c) → get_or v m 0 < get_or w m 0 → sum_by c weights (m ∷ r) v < sum_by c weights (m ∷ r) w
    head_decides m r v w d h k =
        let step : suc (get_or v m 0) ≤ get_or w m 0 = omega arith in
        omega (arith, d.0, at_most c weights r v h, mul-suc (get_or weights m 0) (get_or v m 0), mul-le-mul_left (get_or weights m 0) step)

    next : (m : ℕ) (r v w : List ℕ) → Outweighs c weights (m ∷ r) → ((m : ℕ) → get_or v m 0 ≤ c) → ((m : ℕ) → get_or w m 0 ≤ c) → Standing (get_or v m 0) (get_or w m 0)
        → harmonic r v w ≡ ltb (sum_by c weights r v) (sum_by c weights r w) → harmonic (m ∷ r) v w ≡ ltb (sum_by c weights (m ∷ r) v) (sum_by c weights (m ∷ r) w)
    next m r v w d hv hw (fewer h) rec = ap is_better (at_fewer m r v w h) ∙ sym (lt-ltb (sum_by c weights (m ∷ r) v) (sum_by c weights (m ∷ r) w) (head_decides m r v w d hv h))
    next m r v w d hv hw (same h) rec =
        ap is_better (at_same m r v w h) ∙ rec
        ∙ sym (less_added (get_or weights m 0 * get_or v m 0) (get_or weights m 0 * get_or w m 0) (sum_by c weights r v) (sum_by c weights r w) (ap (λ n. get_or weights m 0 * n) h))
    next m r v w d hv hw (more h) rec =
        let k = head_decides m r w v d hw h in
        ap is_better (at_more m r v w h) ∙ sym (le-ltb (sum_by c weights (m ∷ r) v) (sum_by c weights (m ∷ r) w) (omega arith))

    by_ranking : (r v w : List ℕ) → Outweighs c weights r → ((m : ℕ) → get_or v m 0 ≤ c) → ((m : ℕ) → get_or w m 0 ≤ c) → harmonic r v w ≡ ltb (sum_by c weights r v) (sum_by c weights r w)
    by_ranking [] v w d hv hw = ap is_better (harmony_end v w refl) ∙ sym (le-ltb (sum_by c weights [] v) (sum_by c weights [] w) (omega arith))
    by_ranking (m ∷ r) v w d hv hw = next m r v w d hv hw (standing (get_or v m 0) (get_or w m 0)) (by_ranking r v w d.1 hv hw)
