-- What the marks of all machines and a number of pairs cost.
use Rattle.std.specs.Prelude.{◌≡◌, ◌∷◌, ◌+◌}
use Rattle.basics.proofs.Words.{refl, sym, ◌∙◌, ap, true, false, List, [], inl, inr, ℕ, arith, length, get_or, clash}
use Rattle.ranking.specs.Profiles.{merge}
use Rattle.ranking.specs.Harmony.{is_better}
use Rattle.ranking.specs.HarmonicInequality.{merge_count}
use Rattle.ranking.specs.Lemmas.Harmony.{Standing, fewer, same, more, standing, harmony_end, at_fewer, at_same, at_more}
use Rattle.product.specs.Best.{ProfileOrder, harmonic}
use Rattle.paths.specs.Costs.{Costs}
use Rattle.paths.specs.Ranked.{Ranked, Less, ranked_costs, letter_positive}
use Rattle.paths.specs.ByRanking.{ranked, ranked_letters, Sums, ranked_sum}

-- counts and a number of pairs as a cost: what adds up on one side adds up on the other, and a pair costs something
pub record Price (costs : Costs) : Type 0 where
  pub of : List ℕ → ℕ → costs.Cost
  pub adds : (xs ys : List ℕ) (n m : ℕ) → of (merge xs ys) (n + m) ≡ costs.◌⊕◌ (of xs n) (of ys m)
  pub positive : (xs : List ℕ) (c : costs.Cost) → costs.◌≺◌ c (costs.◌⊕◌ (of xs 1) c)

-- neither of two profiles is better
abbrev pub Alike : ProfileOrder → List ℕ → List ℕ → Type 0
Alike better v w = (better v w ≡ false) × (better w v ≡ false)

-- the price agrees with an order on profiles: a better profile costs less, whatever the pairs; where neither is better they cost the same
pub record Agrees {costs : Costs} (price : Price costs) (better : ProfileOrder) : Type 0 where
  pub less : (xs ys : List ℕ) (n m : ℕ) → better xs ys ≡ true → costs.◌≺◌ (price.of xs n) (price.of ys m)
  pub alike : (xs ys : List ℕ) (n : ℕ) → Alike better xs ys → price.of xs n ≡ price.of ys n

-- ---- the price of a ranking

pub counts_sum : (r xs ys : List ℕ) → Sums r (merge xs ys) xs ys
counts_sum [] xs ys = tt
counts_sum (m ∷ r) xs ys = (merge_count xs ys m, counts_sum r xs ys)

pub ranked_positive : (r xs : List ℕ) (c : Ranked (length r)) → (ranked_costs (length r)).◌≺◌ c ((ranked_costs (length r)).◌⊕◌ (ranked r xs 1) c)
ranked_positive r xs c = letter_positive (length r) (ranked r xs 1) (rw ranked_letters (omega arith)) c

-- the counts in ranked order, highest first, and then the number of pairs
abbrev pub by_ranking : (r : List ℕ) → Price (ranked_costs (length r))
by_ranking r = record { of = ranked r; adds = λ xs ys n m. ranked_sum r (merge xs ys) xs ys n m (counts_sum r xs ys); positive = ranked_positive r }

-- it agrees with harmony, machine by machine down the ranking
better_costs_less : (r xs ys : List ℕ) (n m : ℕ) → harmonic r xs ys ≡ true → Less (length r) (ranked r xs n) (ranked r ys m)
better_costs_less [] xs ys n m e = absurd (clash e (ap is_better (harmony_end {r = []} xs ys refl)))
better_costs_less (i ∷ r) xs ys n m e = go (standing (get_or xs i 0) (get_or ys i 0)) (better_costs_less r xs ys n m)
  where
    go : Standing (get_or xs i 0) (get_or ys i 0) → (harmonic r xs ys ≡ true → Less (length r) (ranked r xs n) (ranked r ys m)) → Less (length (i ∷ r)) (ranked (i ∷ r) xs n) (ranked (i ∷ r) ys m)
    go (fewer h) rec = inl h
    go (same h) rec = inr (h, rec (ap is_better (sym (at_same i r xs ys h)) ∙ e))
    go (more h) rec = absurd (clash e (ap is_better (at_more i r xs ys h)))

alike_costs_same : (r xs ys : List ℕ) (n : ℕ) → Alike (harmonic r) xs ys → ranked r xs n ≡ ranked r ys n
alike_costs_same [] xs ys n e = refl
alike_costs_same (i ∷ r) xs ys n e = go (standing (get_or xs i 0) (get_or ys i 0)) (alike_costs_same r xs ys n)
  where
    go : Standing (get_or xs i 0) (get_or ys i 0) → (Alike (harmonic r) xs ys → ranked r xs n ≡ ranked r ys n) → ranked (i ∷ r) xs n ≡ ranked (i ∷ r) ys n
    go (fewer h) rec = absurd (clash (ap is_better (at_fewer i r xs ys h)) e.0)
    go (same h) rec =
        let q = rec (ap is_better (sym (at_same i r xs ys h)) ∙ e.0, ap is_better (sym (at_same i r ys xs (sym h))) ∙ e.1) in
        λ j. (h j, q j)
    go (more h) rec = absurd (clash (ap is_better (at_fewer i r ys xs h)) e.1)

pub ranking_agrees : (r : List ℕ) → Agrees (by_ranking r) (harmonic r)
ranking_agrees r = record { less = better_costs_less r; alike = alike_costs_same r }
