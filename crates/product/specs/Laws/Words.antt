-- What an accepted word is known to be.
use Rattle.std.specs.Prelude.{◌≡◌, ◌&&◌, ◌≤◌}
use Rattle.basics.proofs.Words.{true, List, ℕ, arith, length, get_or, leb, ltb, all_of, left, right, all_at, each_at}
use Rattle.std.proofs.Common.{leb-true, lt-ltb}
use Rattle.product.specs.Optimizing.{sound_word}

pub record AcceptedWord (S : ℕ) (word : List ℕ) : Type 0 where
  pub short : length word ≤ 24
  pub symbols : all_of (λ x. leb 1 x && leb x S) word ≡ true

pub accepted_word : (S : ℕ) (word : List ℕ) → sound_word S word ≡ true → AcceptedWord S word
unfolding sound_word
accepted_word S word t =
    let b = leb (length word) 24 in
    let d = all_of (λ x. leb 1 x && leb x S) word in
    record { short = leb-true (length word) 24 (left b d t); symbols = right b d t }

-- symbols of at most 63 are below 64
pub small_symbols : (S : ℕ) (word : List ℕ) → S ≤ 63 → all_of (λ x. leb 1 x && leb x S) word ≡ true → all_of (λ x. ltb x 64) word ≡ true
small_symbols S word h t =
    each_at (λ x. ltb x 64) word 0
    (λ i k. lt-ltb (get_or word i 0) 64 (omega (arith, leb-true (get_or word i 0) S (right (leb 1 (get_or word i 0)) (leb (get_or word i 0) S) (all_at (λ x. leb 1 x && leb x S) word 0 t i k)))))
