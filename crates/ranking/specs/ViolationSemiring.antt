-- The violation semiring (Riggle, (2) and (4)), its infinite cost included, over profiles of K counts: the better of two is its sum, with the infinite
-- cost as identity; merge is its product, with the zero profile as identity and the infinite cost as annihilator. Assumes nothing.
use Rattle.std.specs.Prelude.{◌≡◌, ◌≤◌}
use Rattle.basics.specs.Words.{refl, sym, ◌∙◌, ap, true, List, ℕ, length-take-le}
use Rattle.ranking.specs.Profiles.{zero_profile}
use Rattle.ranking.specs.Rankings.{is_ranking}
use Rattle.ranking.specs.Violations.{Violations, finite, infinite, OfCounts, no_violations, merge_costs, better_cost}
use Rattle.ranking.specs.Lemmas.Profiles.{counts_associative, counts_commutative, zero_counts, merge_length, profile_idempotent, profile_associative, profile_length, profile_commutative, counts_distribute}

-- merge: a commutative monoid with the zero profile

pub merge_associative : (a b c : Violations) → merge_costs (merge_costs a b) c ≡ merge_costs a (merge_costs b c)
merge_associative infinite b c = refl
merge_associative (finite u) infinite c = refl
merge_associative (finite u) (finite v) infinite = refl
merge_associative (finite u) (finite v) (finite w) = ap finite (counts_associative u v w)

pub merge_commutative : (a b : Violations) → merge_costs a b ≡ merge_costs b a
merge_commutative infinite infinite = refl
merge_commutative infinite (finite w) = refl
merge_commutative (finite v) infinite = refl
merge_commutative (finite v) (finite w) = ap finite (counts_commutative v w)

module _ (K : ℕ) (few : K ≤ 6) where
  pub zero_merge : (a : Violations) → OfCounts K a → merge_costs (no_violations K) a ≡ a
  zero_merge infinite h = refl
  zero_merge (finite v) h = ap finite (zero_counts K few v h)

  pub merge_zero : (a : Violations) → OfCounts K a → merge_costs a (no_violations K) ≡ a
  merge_zero a h = merge_commutative a (no_violations K) ∙ zero_merge a h

  pub zero_counted : OfCounts K (no_violations K)
  zero_counted = length-take-le K zero_profile.counts few

-- K counts merged with K are K
pub merge_counted : (K : ℕ) (a b : Violations) → OfCounts K a → OfCounts K b → OfCounts K (merge_costs a b)
merge_counted K infinite b h k = tt
merge_counted K (finite v) infinite h k = tt
merge_counted K (finite v) (finite w) h k = merge_length v w (h ∙ sym k) ∙ h

-- the infinite cost annihilates

pub infinite_merge : (a : Violations) → merge_costs infinite a ≡ infinite
infinite_merge a = refl

pub merge_infinite : (a : Violations) → merge_costs a infinite ≡ infinite
merge_infinite infinite = refl
merge_infinite (finite v) = refl

-- the better of two: an idempotent monoid with the infinite cost
module _ (r : List ℕ) where
  pub better_associative : (a b c : Violations) → better_cost r (better_cost r a b) c ≡ better_cost r a (better_cost r b c)
  better_associative infinite b c = refl
  better_associative (finite u) infinite c = refl
  better_associative (finite u) (finite v) infinite = refl
  better_associative (finite u) (finite v) (finite w) = ap finite (profile_associative r u v w)

  pub better_idempotent : (a : Violations) → better_cost r a a ≡ a
  better_idempotent infinite = refl
  better_idempotent (finite v) = ap finite (profile_idempotent r v)

  pub infinite_better : (a : Violations) → better_cost r infinite a ≡ a
  infinite_better a = refl

  pub better_infinite : (a : Violations) → better_cost r a infinite ≡ a
  better_infinite infinite = refl
  better_infinite (finite v) = refl

  -- merge distributes over it, on both sides
  pub distributes_left : (a b c : Violations) → merge_costs a (better_cost r b c) ≡ better_cost r (merge_costs a b) (merge_costs a c)
  distributes_left infinite b c = refl
  distributes_left (finite u) infinite c = refl
  distributes_left (finite u) (finite v) infinite = refl
  distributes_left (finite u) (finite v) (finite w) = ap finite (counts_distribute r u v w)

  pub distributes_right : (a b c : Violations) → merge_costs (better_cost r b c) a ≡ better_cost r (merge_costs b a) (merge_costs c a)
  distributes_right a b c = rw (merge_commutative (better_cost r b c) a, merge_commutative b a, merge_commutative c a) (distributes_left a b c)

-- of two of K counts it is one of K counts, and their order does not matter under a ranking of K machines
module _ (K : ℕ) where
  pub better_counted : (r : List ℕ) (a b : Violations) → OfCounts K a → OfCounts K b → OfCounts K (better_cost r a b)
  better_counted r infinite b h k = k
  better_counted r (finite v) infinite h k = h
  better_counted r (finite v) (finite w) h k = profile_length r v w h k

  pub better_commutative : (r : List ℕ) → is_ranking K r ≡ true → (a b : Violations) → OfCounts K a → OfCounts K b → better_cost r a b ≡ better_cost r b a
  better_commutative r is infinite infinite h k = refl
  better_commutative r is infinite (finite w) h k = refl
  better_commutative r is (finite v) infinite h k = refl
  better_commutative r is (finite v) (finite w) h k = ap finite (profile_commutative K r is v w h k)
