-- How the pairs of a byte string go on from a place. Assumes nothing.
use Rattle.std.specs.Prelude.{◌≡◌, ◌&&◌, ◌∷◌, ◌+◌, ◌/◌, ◌%◌, ◌<◌, ◌≤◌}
use Rattle.basics.proofs.Words.{refl, Bool, true, false, List, [], ℕ, suc, arith, length, get_or, drop, drop_of_length-le, leb, eqb, drop-cons, all_of, leb-true, eqb-true, eq-eqb, ne_eqb, le-leb, lt-leb, left, right, clash}
use Rattle.machine.specs.declared.Pair.{Pair}
use Rattle.machine.specs.Symbols.{empty_symbol, is_pair, within_symbols}
use Rattle.candidate.specs.Candidates.{pair_at, pairs_of, spelled}
use Rattle.candidate.specs.Evaluating.{sound_pair, sound_candidate}

pub pairs_next : (l : List ℕ) (at : ℕ) → at + 2 ≤ length l → pairs_of (drop at l) ≡ pair_at l at ∷ pairs_of (drop (at + 2) l)
unfolding pairs_of
pairs_next l at h =
    let e : suc at ≡ at + 1 = omega arith in
    let f : suc (at + 1) ≡ at + 2 = omega arith in
    let a : drop at l ≡ get_or l at 0 ∷ drop (at + 1) l = rw e at (drop-cons l at 0 (omega arith)) in
    let b : drop (at + 1) l ≡ get_or l (at + 1) 0 ∷ drop (at + 2) l = rw f at (drop-cons l (at + 1) 0 (omega arith)) in
    rw (a, b) refl

pub pairs_end : (l : List ℕ) (at : ℕ) → length l ≤ at → pairs_of (drop at l) ≡ []
unfolding pairs_of
pairs_end l at h = rw (drop_of_length-le l h)

-- what holds of each pair from a place holds of the pair there and of each after it
module _ (f : Pair → Bool) (l : List ℕ) (at : ℕ) (h : at + 2 ≤ length l) (a : all_of f (pairs_of (drop at l)) ≡ true) where
  here_and_after : all_of f (pair_at l at ∷ pairs_of (drop (at + 2) l)) ≡ true
  here_and_after = rw (pairs_next l at h) at a

  pub pair_here : f (pair_at l at) ≡ true
  unfolding all_of
  pair_here = left (f (pair_at l at)) (all_of f (pairs_of (drop (at + 2) l))) here_and_after

  pub pairs_after : all_of f (pairs_of (drop (at + 2) l)) ≡ true
  unfolding all_of
  pairs_after = right (f (pair_at l at)) (all_of f (pairs_of (drop (at + 2) l))) here_and_after

pub sound_facts : (S : ℕ) (p : Pair) → sound_pair S p ≡ true → (p.input ≤ S) × (p.output ≤ S)
sound_facts S p t =
    let w : within_symbols S p ≡ true = right (is_pair p) (within_symbols S p) t in
    (leb-true p.input S (left (leb p.input S) (leb p.output S) w), leb-true p.output S (right (leb p.input S) (leb p.output S) w))

-- even in length: two bytes a pair
pub length_pairs : (l : List ℕ) → length l % 2 ≡ 0 → length (pairs_of l) ≡ length l / 2
unfolding pairs_of
length_pairs [] h = refl
length_pairs (x ∷ []) h = absurd (omega arith)
length_pairs (x ∷ y ∷ rest) h = let r = length_pairs rest (omega arith) in omega arith

-- the word spelled from a place on
pub spelled_next : (l : List ℕ) (at : ℕ) → at + 2 ≤ length l → eqb (get_or l at 0) empty_symbol ≡ false → length (spelled (pairs_of (drop at l))) ≡ suc (length (spelled (pairs_of (drop (at + 2) l))))
unfolding spelled
spelled_next l at h e = rw (pairs_next l at h) (go (eqb (get_or l at 0) empty_symbol) e)
  where
    go : (b : Bool) → b ≡ false → length {A = ℕ} (elim b as (λ _. List ℕ) [ true ↦ spelled (pairs_of (drop (at + 2) l)) | false ↦ get_or l at 0 ∷ spelled (pairs_of (drop (at + 2) l)) ]) ≡ suc (length (spelled (pairs_of (drop (at + 2) l))))
    go true e = absurd (clash refl e)
    go false e = refl

pub spelled_same : (l : List ℕ) (at : ℕ) → at + 2 ≤ length l → eqb (get_or l at 0) empty_symbol ≡ true → length (spelled (pairs_of (drop at l))) ≡ length (spelled (pairs_of (drop (at + 2) l)))
unfolding spelled
spelled_same l at h e = rw (pairs_next l at h) (go (eqb (get_or l at 0) empty_symbol) e)
  where
    go : (b : Bool) → b ≡ true → length {A = ℕ} (elim b as (λ _. List ℕ) [ true ↦ spelled (pairs_of (drop (at + 2) l)) | false ↦ get_or l at 0 ∷ spelled (pairs_of (drop (at + 2) l)) ]) ≡ length (spelled (pairs_of (drop (at + 2) l)))
    go true e = refl
    go false e = absurd (clash e refl)

pub spelled_end : (l : List ℕ) (at : ℕ) → length l ≤ at → length (spelled (pairs_of (drop at l))) ≡ 0
unfolding spelled
spelled_end l at h = rw (pairs_end l at h)

-- when a candidate is sound, by its tests
module _ (S : ℕ) (l : List ℕ) where
  pub odd_refused : (length l % 2 ≡ 0 → ⊥) → sound_candidate S l ≡ false
  unfolding sound_candidate
  odd_refused h = rw (ne_eqb (length l % 2) 0 h)

  pub long_refused : length l % 2 ≡ 0 → 6398 < length l → sound_candidate S l ≡ false
  unfolding sound_candidate
  long_refused e h = rw (eq-eqb (length l % 2) 0 e, lt-leb (length l) 6398 h)

  pub sound_is : length l % 2 ≡ 0 → length l ≤ 6398 → sound_candidate S l ≡ all_of (sound_pair S) (pairs_of l)
  unfolding sound_candidate
  sound_is e h = rw (eq-eqb (length l % 2) 0 e, le-leb (length l) 6398 h)

  pub sound_shape : sound_candidate S l ≡ true → (length l % 2 ≡ 0) × (length l ≤ 6398) × (all_of (sound_pair S) (pairs_of l) ≡ true)
  unfolding sound_candidate
  sound_shape t =
      let a = eqb (length l % 2) 0 in
      let b = leb (length l) 6398 in
      let r = all_of (sound_pair S) (pairs_of l) in
      let ab : (a && b) ≡ true = left (a && b) r t in
      (eqb-true (length l % 2) 0 (left a b ab), leb-true (length l) 6398 (right a b ab), right (a && b) r t)
