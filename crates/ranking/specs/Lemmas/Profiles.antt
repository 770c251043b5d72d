-- How profiles merge, and which is the better of two: the laws of the violation semiring for what is finite in it. Profiles are lists of counts
-- here. Assumes nothing.
use Rattle.std.specs.Prelude.{◌≡◌, ◌∷◌, ◌+◌, ◌≤◌}
use Rattle.basics.specs.Words.{refl, sym, ◌∙◌, ap, Bool, true, false, List, [], ℕ, zero, suc, arith, length, take, replicate, ext_get_or}
use Rattle.ranking.specs.declared.Order.TheVariants.{Equal}
use Rattle.ranking.specs.Profiles.{zero_profile, merge}
use Rattle.ranking.specs.Rankings.{is_ranking}
use Rattle.ranking.specs.Harmony.{harmony, is_better, better, first_if, better_of}
use Rattle.ranking.specs.HarmonicInequality.{itself, one_way, neither_way, transitive, not_better, equal_means, merged_alike}

-- merge is a commutative monoid with the zero profile

pub counts_associative : (u v w : List ℕ) → merge (merge u v) w ≡ merge u (merge v w)
unfolding merge
counts_associative [] v w = refl
counts_associative (x ∷ u) [] w = refl
counts_associative (x ∷ u) (y ∷ v) [] = refl
counts_associative (x ∷ u) (y ∷ v) (z ∷ w) = let e : x + y + z ≡ x + (y + z) = omega arith in let t = counts_associative u v w in λ i. e i ∷ t i

pub counts_commutative : (v w : List ℕ) → merge v w ≡ merge w v
unfolding merge
counts_commutative [] [] = refl
counts_commutative [] (y ∷ w) = refl
counts_commutative (x ∷ v) [] = refl
counts_commutative (x ∷ v) (y ∷ w) = let e : x + y ≡ y + x = omega arith in let t = counts_commutative v w in λ i. e i ∷ t i

zeros_merge : (n : ℕ) (v : List ℕ) → n ≤ length v → merge (replicate n 0) v ≡ v
unfolding merge
zeros_merge zero v h = refl
zeros_merge (suc n) [] h = absurd (omega arith)
zeros_merge (suc n) (x ∷ v) h = let e : 0 + x ≡ x = omega arith in let t = zeros_merge n v (omega arith) in λ i. e i ∷ t i

-- the first K counts of the zero profile are K zeros
zeros : (K n : ℕ) → K ≤ n → take K (replicate n 0) ≡ replicate {A = ℕ} K 0
zeros zero n h = refl
zeros (suc K) zero h = absurd (omega arith)
zeros (suc K) (suc n) h = ap (λ (l : List ℕ). 0 ∷ l) (zeros K n (omega arith))

pub zero_counts : (K : ℕ) → K ≤ 6 → (v : List ℕ) → length v ≡ K → merge (take K zero_profile.counts) v ≡ v
zero_counts K few v h = rw (zeros K 6 few) (zeros_merge K v (omega arith))

-- two of one length merged keep it
pub merge_length : (v w : List ℕ) → length v ≡ length w → length (merge v w) ≡ length v
unfolding merge
merge_length [] w h = sym h
merge_length (x ∷ v) [] h = refl
merge_length (x ∷ v) (y ∷ w) h = ap suc (merge_length v w (omega arith))

module _ (r : List ℕ) where
  -- what the better of two is, by the test
  chosen : (v w : List ℕ) {b : Bool} → better r v w ≡ b → better_of r v w ≡ first_if b v w
  unfolding better_of
  chosen v w e = ap (λ b. first_if b v w) e

  pub profile_idempotent : (v : List ℕ) → better_of r v v ≡ v
  profile_idempotent v = chosen v v (ap is_better (itself r v))

  pub profile_associative : (u v w : List ℕ) → better_of r (better_of r u v) w ≡ better_of r u (better_of r v w)
  profile_associative u v w = go (better r u v) refl (better r v w) refl
    where
      go : (b : Bool) → better r u v ≡ b → (c : Bool) → better r v w ≡ c → better_of r (better_of r u v) w ≡ better_of r u (better_of r v w)
      go true d true e = rw (chosen u v d, chosen v w e, chosen u v d) (chosen u w (transitive r u v w d e))
      go true d false e = rw (chosen u v d, chosen v w e)
      go false d true e = rw (chosen u v d, chosen v w e) (sym (chosen u v d))
      go false d false e = rw (chosen u v d, chosen v w e) (sym (chosen u w (not_better r u v w d e)))

  -- the order of the two does not matter, up to counts that are not compared
  either_way : (v w : List ℕ) → harmony r (better_of r v w) (better_of r w v) ≡ Equal
  either_way v w = go (better r v w) refl (better r w v) refl
    where
      go : (b : Bool) → better r v w ≡ b → (c : Bool) → better r w v ≡ c → harmony r (better_of r v w) (better_of r w v) ≡ Equal
      go true d true e = absurd (one_way r v w d e)
      go true d false e = rw (chosen v w d, chosen w v e) (itself r v)
      go false d true e = rw (chosen v w d, chosen w v e) (itself r w)
      go false d false e = rw (chosen v w d, chosen w v e) (neither_way r w v e d)

  -- merge distributes over it
  pub counts_distribute : (u v w : List ℕ) → merge u (better_of r v w) ≡ better_of r (merge u v) (merge u w)
  counts_distribute u v w = go (better r v w) refl
    where
      go : (b : Bool) → better r v w ≡ b → merge u (better_of r v w) ≡ better_of r (merge u v) (merge u w)
      go true e = rw (chosen v w e, chosen (merge u v) (merge u w) (ap is_better (merged_alike r u v w) ∙ e))
      go false e = rw (chosen v w e, chosen (merge u v) (merge u w) (ap is_better (merged_alike r u v w) ∙ e))

-- the better of two of one length has it, too
pub profile_length : {K : ℕ} (r v w : List ℕ) → length v ≡ K → length w ≡ K → length (better_of r v w) ≡ K
unfolding better_of
profile_length {K} r v w h k = go (better r v w)
  where
    go : (b : Bool) → length (first_if b v w) ≡ K
    go true = h
    go false = k

-- so for profiles of K counts the order of the two does not matter at all
pub profile_commutative : (K : ℕ) (r : List ℕ) → is_ranking K r ≡ true → (v w : List ℕ) → length v ≡ K → length w ≡ K → better_of r v w ≡ better_of r w v
profile_commutative K r is v w h k =
    let n = profile_length r v w h k in
    ext_get_or 0 (better_of r v w) (better_of r w v) (n ∙ sym (profile_length r w v k h)) (λ i l. (equal_means K r is (better_of r v w) (better_of r w v)).0 (either_way r v w) i (omega (arith, n)))
