-- What accepted sets are known to be, and that sets of one symbol each pass the test of sets exactly where the word passes that of symbols.
use Rattle.std.specs.Prelude.{◌≡◌, ◌&&◌, ◌∷◌, ◌+◌, ◌^◌, ◌<◌, ◌≤◌}
use Rattle.basics.proofs.Words.{refl, true, not, and-false, List, [], ℕ, zero, suc, arith, length, get_or, leb, ltb, eqb, lit<, dec_lt, all_of, member, left, right, clash, all_at, each_at, member_beyond, member_one}
use Rattle.std.proofs.Common.{pow_pos, pow_mono, leb-true, le-leb, ltb-true, lt-ltb, le-ltb, ne_eqb}
use Rattle.std.proofs.Math.Pow.{pow-lt}
use Rattle.std.proofs.lemmas.Bool.{lt-leb, not-true}
use Rattle.refusals.specs.Refusals.{refuse}
use Rattle.refusals.proofs.Refusals.{passed, none_first}
use Rattle.machine.specs.Symbols.{empty_symbol}
use Rattle.machine.specs.Part.{sound_set}
use Rattle.product.specs.Sets.{singletons, are64_bits}
use Rattle.product.specs.OptimizingSets.{symbol_set, sets_refusal}
use Rattle.product.specs.Laws.Sets.{member_within}

-- ---- one set

module _ (S set : ℕ) (t : symbol_set S set ≡ true) where
  -- it is below the set of the next symbol
  pub set_below : set < 2 ^ (S + 1)
  set_below = ltb-true set (2 ^ (S + 1)) (right (not (eqb set 0)) (ltb set (2 ^ (S + 1))) (left (sound_set S set) (not (member set empty_symbol)) t))

  -- its symbols are 1 to S
  pub its_symbols : (x : ℕ) → member set x ≡ true → (1 ≤ x) × (x ≤ S)
  its_symbols zero m = absurd (clash m (not-true _ (right (sound_set S set) (not (member set empty_symbol)) t)))
  its_symbols (suc x) m = (omega arith, go (dec_lt (suc x) (S + 1)))
    where
      go : Dec (suc x < S + 1) → suc x ≤ S
      go (yes h) = omega arith
      go (no h) = absurd (clash m (member_beyond set (S + 1) (suc x) set_below (omega arith)))

-- ---- accepted sets

pub record AcceptedSets (S : ℕ) (sets : List ℕ) : Type 0 where
  pub short : length sets ≤ 24
  pub symbols : all_of (symbol_set S) sets ≡ true

pub accepted_sets : (S : ℕ) (sets : List ℕ) → sets_refusal S sets ≡ 0 → AcceptedSets S sets
unfolding sets_refusal
accepted_sets S sets e =
    let n = leb (length sets) 24 in
    let w = all_of (symbol_set S) sets in
    let a = none_first (refuse 8 n) (refuse 25 w ∷ []) e in
    let b = none_first (refuse 25 w) [] a.1 in
    record { short = leb-true (length sets) 24 (passed 8 n (lit< tt) a.0); symbols = passed 25 w (lit< tt) b.0 }

module _ (S : ℕ) (sets : List ℕ) (t : all_of (symbol_set S) sets ≡ true) where
  -- what is read at a position is a symbol
  pub read_symbols : (i x : ℕ) → member (get_or sets i 0) x ≡ true → (1 ≤ x) × (x ≤ S)
  read_symbols i x m = its_symbols S (get_or sets i 0) (all_at (symbol_set S) sets 0 t i (member_within sets i x m)) x m

  -- they are 64-bit numbers
  pub sets_64 : S ≤ 63 → are64_bits sets ≡ true
  sets_64 h =
      each_at (λ set. ltb set (2 ^ 64)) sets 0
      (λ i k. lt-ltb (get_or sets i 0) (2 ^ 64) (omega (arith, set_below S (get_or sets i 0) (all_at (symbol_set S) sets 0 t i k), pow_mono {i = S + 1} {j = 64} (omega arith))))

-- ---- sets of one symbol each

singleton_set : (S x : ℕ) → symbol_set S (2 ^ x) ≡ (leb 1 x && leb x S)
singleton_set S zero = and-false (sound_set S (2 ^ 0))
singleton_set S (suc x) = rw (member_one (suc x) empty_symbol, ne_eqb empty_symbol (suc x) (omega arith), ne_eqb (2 ^ suc x) 0 (omega (arith, pow_pos (suc x))), le-leb 1 (suc x) (omega arith)) (go (dec_lt S (suc x)))
  where
    go : Dec (S < suc x) → (ltb (2 ^ suc x) (2 ^ (S + 1)) && true) ≡ leb (suc x) S
    go (yes h) = rw (le-ltb (2 ^ suc x) (2 ^ (S + 1)) (pow_mono {i = S + 1} {j = suc x} (omega arith)), lt-leb (suc x) S h)
    go (no h) = rw (lt-ltb (2 ^ suc x) (2 ^ (S + 1)) (pow-lt (omega arith)), le-leb (suc x) S (omega arith))

-- they are sets of symbols exactly where the word is of symbols
pub singleton_sets : (S : ℕ) (word : List ℕ) → all_of (symbol_set S) (singletons word) ≡ all_of (λ x. leb 1 x && leb x S) word
unfolding all_of
singleton_sets S [] = refl
singleton_sets S (x ∷ word) = rw (singleton_set S x, singleton_sets S word)
