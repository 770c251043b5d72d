-- How the conditions of a list of byte pairs begin at a place. Assumes nothing.
use Rattle.std.specs.Prelude.{◌≡◌, ◌&&◌, ◌∷◌, ◌+◌, ◌*◌, ◌/◌, ◌%◌, ◌^◌, ◌<◌, ◌≤◌}
use Rattle.basics.proofs.Words.{refl, subst, sym, ap, ◌∙◌, Bool, true, false, List, [], List-as-Memᴰ, ℕ, suc, arith, length, get_or, drop, drop_of_length-le, eqb, leb, ltb, drop-cons, add-one, add-two, all_of, numbers_below, member, eqb-true, eq-eqb, ne_eqb, le-leb, lt-leb, ltb-true, ltb-false, left, right, all_next, all_fails, all_none, all_member, member_beyond}
use Rattle.ranking.specs.declared.Condition.{Condition}
use Rattle.finder.specs.Steps.{condition_at}
use Rattle.finder.specs.Finder.{disjoint, conditions_of, sound_condition, sound_list, smallest}
use Rattle.ranking.specs.Lemmas.Searches.{split}
use Rattle.finder.proofs.Sets.{disjoint_at}
use Rattle.finder.proofs.Demotion.{demotion, demotion_smallest}

module _ (l : List ℕ) (at : ℕ) where
  pub pairs_next : at + 1 < length l → conditions_of (drop at l) ≡ condition_at l at ∷ conditions_of (drop (at + 2) l)
  unfolding conditions_of
  pairs_next h =
      rw (add-one, add-two)
      (ap conditions_of (drop-cons l at 0 (omega arith) ∙ ap (λ (r : List ℕ). get_or l at 0 ∷ r) (drop-cons l (suc at) 0 (omega arith))))

  pub pairs_end : length l ≤ at → conditions_of (drop at l) ≡ []
  unfolding conditions_of
  pairs_end h = rw (drop_of_length-le l h)

-- a test of every condition, gone along the list to a place
pub record Reached (f : Condition → Bool) (l : List ℕ) (at : ℕ) : Type 0 where
  pub even : at % 2 ≡ 0
  pub within : at ≤ length l
  pub left_over : all_of f (conditions_of (drop at l)) ≡ all_of f (conditions_of l)

pub reached_start : (f : Condition → Bool) (l : List ℕ) → Reached f l 0
reached_start f l = record { even = refl; within = omega arith; left_over = refl }

module _ {f : Condition → Bool} {l : List ℕ} {at : ℕ} (R : Reached f l at) where
  pub reached_next : length l % 2 ≡ 0 → at < length l → f (condition_at l at) ≡ true → Reached f l (at + 2)
  reached_next e h t =
      let even_here = R.even in
      record {
        even = omega arith;
        within = omega arith;
        left_over = all_next f (pairs_next l at (omega arith)) t ∙ R.left_over;
      }

  pub reached_fails : length l % 2 ≡ 0 → at < length l → f (condition_at l at) ≡ false → all_of f (conditions_of l) ≡ false
  reached_fails e h t = let even_here = R.even in sym R.left_over ∙ all_fails f (pairs_next l at (omega arith)) t

  pub reached_end : length l ≤ at → all_of f (conditions_of l) ≡ true
  reached_end h = sym R.left_over ∙ all_none f (pairs_end l at h)

-- gone along pair by pair
module _ {f : Condition → Bool} {l : List ℕ} {i : ℕ} (R : Reached f l (2 * i)) where
  pub pair_next : length l % 2 ≡ 0 → i < length l / 2 → f (condition_at l (2 * i)) ≡ true → Reached f l (2 * (i + 1))
  pair_next e h t =
      let n = reached_next R e (omega arith) t in
      let same : 2 * i + 2 ≡ 2 * (i + 1) = omega arith in
      subst (Reached f l) same n

  pub pair_fails : length l % 2 ≡ 0 → i < length l / 2 → f (condition_at l (2 * i)) ≡ false → all_of f (conditions_of l) ≡ false
  pair_fails e h t = reached_fails R e (omega arith) t

  pub pair_end : length l % 2 ≡ 0 → length l / 2 ≤ i → all_of f (conditions_of l) ≡ true
  pair_end e h = reached_end R (omega arith)

-- the list's soundness, by its tests
module _ (K : ℕ) (l : List ℕ) where
  pub odd_list : (length l % 2 ≡ 0 → ⊥) → sound_list K l ≡ false
  unfolding sound_list
  odd_list h = rw (ne_eqb (length l % 2) 0 h)

  pub long_list : length l % 2 ≡ 0 → 128 < length l → sound_list K l ≡ false
  unfolding sound_list
  long_list e h = rw (eq-eqb (length l % 2) 0 e, lt-leb (length l) 128 h)

  pub listed_pairs : length l % 2 ≡ 0 → length l ≤ 128 → sound_list K l ≡ all_of (sound_condition K) (conditions_of l)
  unfolding sound_list
  listed_pairs e h = rw (eq-eqb (length l % 2) 0 e, le-leb (length l) 128 h)

  -- what a sound list's conditions are known to be
  pub sound_pairs : sound_list K l ≡ true → (c : Condition) → List-as-Memᴰ c (conditions_of l) → sound_condition K c ≡ true
  unfolding sound_list
  sound_pairs t c i =
      all_member (sound_condition K) (right (eqb (length l % 2) 0 && leb (length l) 128) (all_of (sound_condition K) (conditions_of l)) t) i

  pub even_list : sound_list K l ≡ true → length l % 2 ≡ 0
  unfolding sound_list
  even_list t =
      eqb-true (length l % 2) 0
      (left (eqb (length l % 2) 0) (leb (length l) 128)
      (left (eqb (length l % 2) 0 && leb (length l) 128) (all_of (sound_condition K) (conditions_of l)) t))

module _ (K : ℕ) (k : K ≤ 6) (c : Condition) where
  pub sound_more : sound_condition K c ≡ true → c.more < 2 ^ K
  unfolding sound_condition
  sound_more t = ltb-true c.more (2 ^ K) (right (disjoint c.fewer c.more && ltb c.fewer (2 ^ K)) (ltb c.more (2 ^ K)) t)

  -- no machine is in both sets: none below 8, and none is in either from 8 on
  pub sound_disjoint : sound_condition K c ≡ true → (m : ℕ) → member c.fewer m ≡ true → member c.more m ≡ false
  unfolding sound_condition
  sound_disjoint t m w =
      split (ltb m 8)
      (λ h.
      disjoint_at c.fewer c.more
      (left (disjoint c.fewer c.more) (ltb c.fewer (2 ^ K))
      (left (disjoint c.fewer c.more && ltb c.fewer (2 ^ K)) (ltb c.more (2 ^ K)) t))
      m (ltb-true m 8 h) w)
      (λ h. member_beyond c.more K m (sound_more t) (omega (arith, ltb-false m 8 h)))

-- demotion gives the smallest ranking that fits the conditions of a sound list
pub demotion_sound : (K : ℕ) (l : List ℕ) → K ≤ 6 → sound_list K l ≡ true → smallest K (conditions_of l) ≡ demotion K (numbers_below K) (conditions_of l)
demotion_sound K l k t =
    demotion_smallest K (conditions_of l) (λ c i. sound_disjoint K k c (sound_pairs K l t c i)) (λ c i. sound_more K k c (sound_pairs K l t c i))
