-- A word as sets of one symbol each: filling them, and what an accepted word's are. Assumes nothing.
use Rattle.std.specs.Prelude.{◌≡◌, ◌&&◌, ◌∷◌, ◌+◌, ◌^◌, ◌<◌, ◌≤◌}
use Rattle.basics.proofs.Words.{refl, true, List, [], ℕ, suc, arith, length, get_or, take, set, length-set, leb, ltb, get_or-set_same, get_or-set_other, ℕ_discrete, all_of, member, leb-true, ltb-true, left, right, all_at}
use Rattle.card.specs.Layout.{symbol_count}
use Rattle.card.specs.Card.{card_refusal}
use Rattle.card.specs.Accepted.{accepted}
use Rattle.product.specs.Sets.{singletons}
use Rattle.product.specs.Optimizing.{sound_word}
use Rattle.product.specs.Laws.Words.{accepted_word, small_symbols}
use Rattle.product.specs.Laws.Sets.{reads_word}

-- ---- filling the sets

-- the first n sets are there
pub record FilledBelow (word sets : List ℕ) (n : ℕ) : Type 0 where
  pub room : length word ≤ length sets
  pub filled : (k : ℕ) → k < n → get_or sets k 0 ≡ 2 ^ get_or word k 0

pub filled_start : {word sets : List ℕ} → length word ≤ length sets → FilledBelow word sets 0
filled_start h = record { room = h; filled = λ k l. absurd (omega arith) }

pub filled_next : {word sets : List ℕ} {n x : ℕ} → FilledBelow word sets n → n < length word → x ≡ 2 ^ get_or word n 0 → FilledBelow word (set sets n x) (n + 1)
filled_next {word} {sets} {n} {x} F h e = record { room = omega (arith, F.room, length-set sets n x); filled = λ k l. at k l (ℕ_discrete k n) }
  where
    at : (k : ℕ) → k < n + 1 → Dec (k ≡ n) → get_or (set sets n x) k 0 ≡ 2 ^ get_or word k 0
    at k l (yes q) = rw (q, get_or-set_same sets n x 0 (omega (arith, F.room))) e
    at k l (no q) = rw (get_or-set_other sets n k x 0 q) (F.filled k (omega arith))

all_filled : (word sets : List ℕ) → length word ≤ length sets → ((k : ℕ) → k < length word → get_or sets k 0 ≡ 2 ^ get_or word k 0) → take (length word) sets ≡ singletons word
all_filled [] sets h f = refl
all_filled (x ∷ word) [] h f = absurd (omega arith)
all_filled (x ∷ word) (s ∷ sets) h f =
    let e : s ≡ 2 ^ x = f 0 (omega arith) in
    let r = all_filled word sets (omega arith) (λ k l. f (suc k) (omega arith)) in
    λ i. e i ∷ r i

pub filled_end : {word sets : List ℕ} {n : ℕ} → FilledBelow word sets n → length word ≤ n → take (length word) sets ≡ singletons word
filled_end {word} {sets} F h = all_filled word sets F.room (λ k l. F.filled k (omega arith))

-- ---- an accepted word

module _ (card word : List ℕ) (ok : card_refusal card ≡ 0) (sound : sound_word (symbol_count card) word ≡ true) where
  a_symbol : (i : ℕ) → i < length word → (1 ≤ get_or word i 0) × (get_or word i 0 ≤ symbol_count card)
  a_symbol i h =
      let S = symbol_count card in
      let x = get_or word i 0 in
      let t = all_at (λ x. leb 1 x && leb x S) word 0 (accepted_word S word sound).symbols i h in
      (leb-true 1 x (left (leb 1 x) (leb x S) t), leb-true x S (right (leb 1 x) (leb x S) t))

  pub all_small : all_of (λ x. ltb x 64) word ≡ true
  all_small = small_symbols (symbol_count card) word (accepted card ok).head.counts.symbols (accepted_word (symbol_count card) word sound).symbols

  pub of_sets : (i x : ℕ) → member (get_or (singletons word) i 0) x ≡ true → (1 ≤ x) × (x ≤ symbol_count card)
  of_sets i x t =
      let r = (reads_word word i x).0 t in
      let s = a_symbol i r.0 in
      (omega (arith, s, r.1), omega (arith, s, r.1))

pub small_at : (word : List ℕ) → all_of (λ x. ltb x 64) word ≡ true → (i : ℕ) → i < length word → get_or word i 0 < 64
small_at word t i h = ltb-true (get_or word i 0) 64 (all_at (λ x. ltb x 64) word 0 t i h)
