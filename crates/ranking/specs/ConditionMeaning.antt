-- What a ranking condition means: the rankings that fit the condition of two profiles are those under which the first is not worse than the
-- second. Assumes nothing.
use Rattle.std.specs.Prelude.{◌≡◌, ◌∷◌, ◌⊎◌, ◌↔◌, ◌<◌}
use Rattle.basics.proofs.Words.{refl, sym, ◌∙◌, Bool, true, false, or-true, List, [], inl, inr, ℕ, suc, arith, length, get_or, eqb, ltb, le_of_lt, le_of_eq, member, clash, fails, either, set_member, set_empty, empty_set}
use Rattle.std.proofs.Common.{lt-ltb, le-ltb, eqb-true, eq-eqb}
use Rattle.ranking.specs.Rankings.{is_ranking}
use Rattle.ranking.specs.Harmony.{harmony, better, worse}
use Rattle.ranking.specs.Conditions.{fewer_in, condition_of, highest, in_fewer, fits}
use Rattle.ranking.specs.Lemmas.Rankings.{Ranking, ranking_facts}
use Rattle.ranking.specs.Lemmas.Harmony.{Standing, fewer, same, more, standing, at_fewer, at_same, at_more}
use Rattle.ranking.specs.HarmonicInequality.{worse_means, equal_means, not_both, neither}

module _ (K : ℕ) (a b : List ℕ) where
  -- membership of the two sets
  in_set : (v w : List ℕ) (m : ℕ) → m < K → member (fewer_in K v w) m ≡ ltb (get_or v m 0) (get_or w m 0)
  in_set v w m h = set_member (λ i. ltb (get_or v i 0) (get_or w i 0)) K m h

  -- the highest ranked machine in either set is where comparison is decided
  decided_there : (r : List ℕ) → ((i : ℕ) → i < length r → get_or r i 0 < K) → in_fewer (condition_of K a b) (highest r (condition_of K a b)) ≡ better r a b
  unfolding highest harmony
  decided_there [] h = refl
  decided_there (m ∷ r) h = go (standing (get_or a m 0) (get_or b m 0)) (decided_there r (λ i q. h (suc i) (omega arith)))
    where
      W : member (fewer_in K a b) m ≡ ltb (get_or a m 0) (get_or b m 0)
      W = in_set a b m (h 0 (omega arith))

      L : member (fewer_in K b a) m ≡ ltb (get_or b m 0) (get_or a m 0)
      L = in_set b a m (h 0 (omega arith))

      go : Standing (get_or a m 0) (get_or b m 0) → in_fewer (condition_of K a b) (highest r (condition_of K a b)) ≡ better r a b
          → in_fewer (condition_of K a b) (highest (m ∷ r) (condition_of K a b)) ≡ better (m ∷ r) a b
      go (fewer q) k = let p : member (fewer_in K a b) m ≡ true = W ∙ lt-ltb _ _ q in rw (at_fewer m r a b q, p, highest) p
      go (same q) k =
          let p : member (fewer_in K a b) m ≡ false = W ∙ le-ltb _ _ (le_of_eq (sym q)) in
          let s : member (fewer_in K b a) m ≡ false = L ∙ le-ltb _ _ (le_of_eq q) in
          rw (at_same m r a b q, p, s, highest) k
      go (more q) k =
          let p : member (fewer_in K a b) m ≡ false = W ∙ le-ltb _ _ (le_of_lt q) in
          let s : member (fewer_in K b a) m ≡ true = L ∙ lt-ltb _ _ q in
          rw (at_more m r a b q, p, s, highest) p

  pub fits_means : (r : List ℕ) → is_ranking K r ≡ true → (fits r (condition_of K a b) ≡ true) ↔ (worse r a b ≡ false)
  unfolding fits
  fits_means r is = (λ t. fails (worse r a b) (not_worse t), λ n. go (better r a b) refl n)
    where
      facts : Ranking K r
      facts = ranking_facts K r is

      at_highest : in_fewer (condition_of K a b) (highest r (condition_of K a b)) ≡ better r a b
      at_highest = decided_there r facts.below

      not_worse : fits r (condition_of K a b) ≡ true → worse r a b ≡ true → ⊥
      not_worse t w = some_way (either (eqb (fewer_in K b a) 0) (in_fewer (condition_of K a b) (highest r (condition_of K a b))) t)
        where
          some_way : (eqb (fewer_in K b a) 0 ≡ true) ⊎ (in_fewer (condition_of K a b) (highest r (condition_of K a b)) ≡ true) → ⊥
          some_way (inl e) =
              let d = (worse_means r a b).0 w in
              let m = get_or r d.place 0 in
              let none_more = empty_set (λ i. ltb (get_or b i 0) (get_or a i 0)) K (eqb-true (fewer_in K b a) 0 e) m (facts.below d.place d.ranked) in
              clash (lt-ltb _ _ d.smaller) none_more
          some_way (inr e) = not_both (harmony r a b) (sym at_highest ∙ e) w

      go : (t : Bool) → better r a b ≡ t → worse r a b ≡ false → fits r (condition_of K a b) ≡ true
      go true e n = rw (at_highest ∙ e) (or-true (eqb (fewer_in K b a) 0))
      go false e n =
          let agree = (equal_means K r is a b).0 (neither (harmony r a b) e n) in
          let none_more : fewer_in K b a ≡ 0 = set_empty (λ i. ltb (get_or b i 0) (get_or a i 0)) K (λ i h. le-ltb _ _ (le_of_eq (agree i h))) in
          rw (eq-eqb (fewer_in K b a) 0 none_more)
