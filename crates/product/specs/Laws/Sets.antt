-- Laws of words with one symbol from each set, and of words as sets of one symbol each.
use Rattle.std.specs.Prelude.{◌≡◌, ◌&&◌, ◌∷◌, ◌↔◌, ◌+◌, ◌^◌, ◌<◌, ◌≤◌}
use Rattle.basics.proofs.Words.{refl, sym, ◌∙◌, true, false, List, [], ℕ, zero, suc, arith, length, get_or, drop, length-map, dec_lt, member, clash, left_next, left_none, no_member, member_one}
use Rattle.std.proofs.Common.{eqb-true, eq-eqb}
use Rattle.machine.specs.Symbols.{empty_symbol}
use Rattle.product.specs.Best.{same_word}
use Rattle.product.specs.Sets.{fits_sets, singletons}

-- a symbol of the set at a position: there is a set
past : (sets : List ℕ) (i : ℕ) → length sets ≤ i → get_or sets i 0 ≡ 0
past [] i h = refl
past (set ∷ sets) zero h = absurd (omega arith)
past (set ∷ sets) (suc i) h = past sets i (omega arith)

pub member_within : (sets : List ℕ) (i x : ℕ) → member (get_or sets i 0) x ≡ true → i < length sets
member_within sets i x t = go (dec_lt i (length sets))
  where
    go : Dec (i < length sets) → i < length sets
    go (yes h) = h
    go (no h) = absurd (clash t (rw (past sets i (omega arith)) (no_member x)))

-- ---- the sets from a position on

module _ (sets : List ℕ) (i : ℕ) where
  -- the empty word fits none, and no others
  pub fits_end : length sets ≤ i → fits_sets (drop i sets) [] ≡ true
  unfolding fits_sets
  fits_end h = rw (left_none sets i h)

  pub fits_more : i < length sets → fits_sets (drop i sets) [] ≡ false
  unfolding fits_sets
  fits_more h = rw (left_next sets i h)

  -- one symbol more fits the set at the position, and the rest those after it
  pub fits_next : (x : ℕ) (word : List ℕ) → fits_sets (drop i sets) (x ∷ word) ≡ (member (get_or sets i 0) x && fits_sets (drop (i + 1) sets) word)
  unfolding fits_sets
  fits_next x word = go (dec_lt i (length sets))
    where
      go : Dec (i < length sets) → fits_sets (drop i sets) (x ∷ word) ≡ (member (get_or sets i 0) x && fits_sets (drop (i + 1) sets) word)
      go (yes h) = rw (left_next sets i h)
      go (no h) = rw (left_none sets i (omega arith), past sets i (omega arith), no_member x)

-- ---- sets of one symbol each

-- the word itself fits them, and no other
pub fits_singletons : (word other : List ℕ) → fits_sets (singletons word) other ≡ same_word other word
unfolding fits_sets same_word
fits_singletons [] [] = refl
fits_singletons [] (y ∷ other) = refl
fits_singletons (x ∷ word) [] = refl
fits_singletons (x ∷ word) (y ∷ other) = rw (member_one x y, fits_singletons word other)

pub as_many : (word : List ℕ) → length (singletons word) ≡ length word
as_many word = length-map word (λ x. 2 ^ x)

-- what the set at a position reads is the word's symbol there
pub reads_word : (word : List ℕ) (i x : ℕ) → (member (get_or (singletons word) i 0) x ≡ true) ↔ ((i < length word) × (get_or word i empty_symbol ≡ x))
reads_word [] i x = (λ t. absurd (clash t (no_member x)), λ h. absurd (omega (arith, h.0)))
reads_word (y ∷ word) zero x = (λ t. (omega arith, sym (eqb-true x y (sym (member_one y x) ∙ t))), λ h. member_one y x ∙ eq-eqb x y (sym h.1))
reads_word (y ∷ word) (suc i) x = (λ t. let r = (reads_word word i x).0 t in (omega (arith, r.0), r.1), λ h. (reads_word word i x).1 (omega (arith, h.0), h.1))
