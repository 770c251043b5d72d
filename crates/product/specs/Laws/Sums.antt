-- Weighted sums: a sum over all machines is the same in card order and in ranked order; the sum of a merge; how large a sum is. Assumes nothing.
use Rattle.std.specs.Prelude.{◌≡◌, ◌∷◌, ◌+◌, ◌*◌, ◌<◌, ◌≤◌}
use Rattle.basics.proofs.Words.{refl, sym, ◌∙◌, ap, true, List, [], ℕ, zero, suc, arith, length, get_or, leb, zero-mul, one-mul, mul-zero, suc-mul, mul-suc, mul-add, mul-le-mul, all_of, occurrences, left, right, occurs_none, occurs_here, occurs_later}
use Rattle.std.proofs.Common.{leb-true}
use Rattle.ranking.specs.Profiles.{merge}
use Rattle.ranking.specs.Rankings.{is_ranking}
use Rattle.ranking.specs.Lemmas.Harmony.{Standing, fewer, same, more, standing}
use Rattle.ranking.specs.Lemmas.Rankings.{ranking_facts}
use Rattle.product.specs.Weights.{weighted_sum}
use Rattle.product.specs.Dominance.{sum_over}

-- f 0 + f 1 + .. below n
unfoldable pub sum_below : (ℕ → ℕ) → ℕ → ℕ
sum_below f zero = 0
sum_below f (suc n) = sum_below f n + f n

same_below : (f g : ℕ → ℕ) (n : ℕ) → ((m : ℕ) → m < n → f m ≡ g m) → sum_below f n ≡ sum_below g n
unfolding sum_below
same_below f g zero h = refl
same_below f g (suc n) h = omega (arith, same_below f g n (λ m k. h m (omega arith)), h n (omega arith))

first_apart : (f : ℕ → ℕ) (n : ℕ) → sum_below f (suc n) ≡ f 0 + sum_below (λ m. f (suc m)) n
unfolding sum_below
first_apart f zero = omega arith
first_apart f (suc n) = omega (arith, first_apart f n)

-- ---- in card order

pub card_order : (weights v : List ℕ) → weighted_sum weights v ≡ sum_below (λ m. get_or weights m 0 * get_or v m 0) (length weights)
unfolding weighted_sum sum_below
card_order [] v = refl
card_order (w ∷ weights) [] = go (length (w ∷ weights))
  where
    go : (n : ℕ) → 0 ≡ sum_below (λ m. get_or (w ∷ weights) m 0 * 0) n
    go zero = refl
    go (suc n) = omega (arith, go n, mul-zero (get_or (w ∷ weights) n 0))
card_order (w ∷ weights) (n ∷ v) = omega (arith, card_order weights v, first_apart (λ m. get_or (w ∷ weights) m 0 * get_or (n ∷ v) m 0) (length weights))

-- ---- in ranked order: each number below K as often as it stands in the list

module _ (f : ℕ → ℕ) where
  counted : List ℕ → ℕ → ℕ
  counted xs K = sum_below (λ m. occurrences m xs * f m) K

  counted_none : (K : ℕ) → counted [] K ≡ 0
  unfolding counted sum_below
  counted_none zero = refl
  counted_none (suc K) = rw (occurs_none K {xs = []} refl) (omega (arith, counted_none K, zero-mul (f K)))

  -- a number from K on does not count, a number below K does
  not_counted : (x : ℕ) (xs : List ℕ) (K : ℕ) → K ≤ x → counted (x ∷ xs) K ≡ counted xs K
  unfolding counted
  not_counted x xs K h = same_below (λ m. occurrences m (x ∷ xs) * f m) (λ m. occurrences m xs * f m) K (λ m k. (rw (occurs_later {n = m} {x = x} {rest = xs} refl (λ e. omega arith))))

  counted_next : (x : ℕ) (xs : List ℕ) (K : ℕ) → x < K → counted (x ∷ xs) K ≡ f x + counted xs K
  unfolding counted sum_below
  counted_next x xs zero h = absurd (omega arith)
  counted_next x xs (suc K) h = go (standing x K) (counted_next x xs K)
    where
      go : Standing x K → (x < K → counted (x ∷ xs) K ≡ f x + counted xs K) → counted (x ∷ xs) (suc K) ≡ f x + counted xs (suc K)
      go (fewer k) rec = rw (occurs_later {n = K} {x = x} {rest = xs} refl (λ e. omega arith)) (omega (arith, rec k))
      go (same k) rec = rw (occurs_here {n = K} {x = x} {rest = xs} refl k) (omega (arith, not_counted x xs K (omega arith), suc-mul (occurrences K xs) (f K), ap f k))
      go (more k) rec = absurd (omega arith)

  all_counted : (xs : List ℕ) (K : ℕ) → ((i : ℕ) → i < length xs → get_or xs i 0 < K) → sum_over f xs ≡ counted xs K
  unfolding sum_over
  all_counted [] K h = sym (counted_none K)
  all_counted (x ∷ xs) K h = omega (arith, counted_next x xs K (h 0 (omega arith)), all_counted xs K (λ i k. h (suc i) (omega arith)))

  ranked_order : (K : ℕ) (r : List ℕ) → is_ranking K r ≡ true → sum_over f r ≡ sum_below f K
  unfolding counted
  ranked_order K r is =
      let a = ranking_facts K r is in
      all_counted r K a.below ∙ same_below (λ m. occurrences m r * f m) f K (λ m k. (rw (a.once m k) (one-mul (f m))))

-- the weighted sum by any ranking of the machines
pub sum_by_ranking : (weights r v : List ℕ) → is_ranking (length weights) r ≡ true → weighted_sum weights v ≡ sum_over (λ m. get_or weights m 0 * get_or v m 0) r
sum_by_ranking weights r v is = card_order weights v ∙ sym (ranked_order (λ m. get_or weights m 0 * get_or v m 0) (length weights) r is)

-- ---- and of a merge

pub sum_merge : (weights xs ys : List ℕ) → weighted_sum weights (merge xs ys) ≡ weighted_sum weights xs + weighted_sum weights ys
unfolding weighted_sum merge
sum_merge [] xs ys = refl
sum_merge (w ∷ weights) [] ys = omega arith
sum_merge (w ∷ weights) (x ∷ xs) [] = omega arith
sum_merge (w ∷ weights) (x ∷ xs) (y ∷ ys) = omega (arith, sum_merge weights xs ys, mul-add w x y)

-- ---- how large it is

-- weights of at most W and counts of at most c have a sum of at most W × c a machine
pub sum_bound : (W c : ℕ) (weights v : List ℕ) → all_of (λ w. leb w W) weights ≡ true → all_of (λ n. leb n c) v ≡ true → weighted_sum weights v ≤ W * c * length weights
unfolding weighted_sum all_of
sum_bound W c [] v hw hv = omega arith
sum_bound W c (w ∷ weights) [] hw hv = omega arith
sum_bound W c (w ∷ weights) (n ∷ v) hw hv =
    let a = leb-true w W (left (leb w W) (all_of (λ w. leb w W) weights) hw) in
    let b = leb-true n c (left (leb n c) (all_of (λ n. leb n c) v) hv) in
    omega (arith, mul-le-mul a b, mul-suc (W * c) (length weights), sum_bound W c weights v (right (leb w W) (all_of (λ w. leb w W) weights) hw) (right (leb n c) (all_of (λ n. leb n c) v) hv))
