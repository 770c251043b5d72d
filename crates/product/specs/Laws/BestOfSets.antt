-- What the definition of the best over sets lists: the words with one symbol from each set, and their best candidates.
use Rattle.std.specs.Prelude.{◌≡◌, ◌∷◌, ◌^◌, ◌<◌}
use Rattle.basics.proofs.Words.{refl, true, false≢true, List, [], map, List-as-Memᴰ, List·Memᴰ·head, List·Memᴰ·eq-of-singleton, ℕ, arith, length, ltb, dec_lt, all_of, those, numbers_below, member, both, left, right, clash, those_member, member_those, joined_member, member_joined, member_numbers, member_beyond}
use Rattle.std.proofs.Math.Pow.{pow-lt}
use Rattle.std.proofs.Common.{ltb-true, lt-ltb}
use Rattle.product.specs.Sets.{fits_sets, singletons, are64_bits, words_from}
use Rattle.product.specs.Laws.Listing.{map_member, member_map}

-- ---- the words

pub singletons_64 : (word : List ℕ) → all_of (λ x. ltb x 64) word ≡ true → are64_bits (singletons word) ≡ true
unfolding all_of
singletons_64 [] t = refl
singletons_64 (x ∷ word) t =
    both (lt-ltb (2 ^ x) (2 ^ 64) (pow-lt (ltb-true x 64 (left (ltb x 64) (all_of (λ x. ltb x 64) word) t))))
    (singletons_64 word (right (ltb x 64) (all_of (λ x. ltb x 64) word) t))

pub fits_length : (sets word : List ℕ) → fits_sets sets word ≡ true → length word ≡ length sets
unfolding fits_sets
fits_length [] [] t = refl
fits_length [] (x ∷ word) t = absurd (false≢true t)
fits_length (set ∷ sets) [] t = absurd (false≢true t)
fits_length (set ∷ sets) (x ∷ word) t = omega (arith, fits_length sets word (right (member set x) (fits_sets sets word) t))

-- those that are listed have one symbol from each set
pub words_fit : (sets word : List ℕ) → List-as-Memᴰ word (words_from sets) → fits_sets sets word ≡ true
unfolding words_from fits_sets
words_fit [] word m = rw (List·Memᴰ·eq-of-singleton m)
words_fit (set ∷ sets) word m =
    let j = joined_member (λ x. map (λ word. x ∷ word) (words_from sets)) (those (member set) (numbers_below 64)) m in
    let q = map_member (λ word. j.0 ∷ word) (words_from sets) j.2 in
    rw q.2 (both (those_member (member set) (numbers_below 64) j.1).1 (words_fit sets q.0 q.1))

-- and every such word is listed
pub fits_listed : (sets word : List ℕ) → are64_bits sets ≡ true → fits_sets sets word ≡ true → List-as-Memᴰ word (words_from sets)
unfolding words_from fits_sets all_of
fits_listed [] [] b t = List·Memᴰ·head refl
fits_listed [] (x ∷ word) b t = absurd (false≢true t)
fits_listed (set ∷ sets) [] b t = absurd (false≢true t)
fits_listed (set ∷ sets) (x ∷ word) b t =
    member_joined (λ x. map (λ word. x ∷ word) (words_from sets)) (member_those (member set) (member_numbers 64 x (small (dec_lt x 64))) is)
    (member_map (λ word. x ∷ word) (fits_listed sets word (right (ltb set (2 ^ 64)) (are64_bits sets) b) (right (member set x) (fits_sets sets word) t)))
  where
    is : member set x ≡ true
    is = left (member set x) (fits_sets sets word) t

    small : Dec (x < 64) → x < 64
    small (yes h) = h
    small (no h) = absurd (clash is (member_beyond set 64 x (ltb-true set (2 ^ 64) (left (ltb set (2 ^ 64)) (are64_bits sets) b)) (omega arith)))
