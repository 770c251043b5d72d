-- How the check of a word ends. Assumes nothing.
use Rattle.std.specs.Prelude.{◌≡◌, ◌&&◌, ◌+◌, ◌<◌, ◌≤◌}
use Rattle.basics.proofs.Words.{Bool, true, false, List, ℕ, length, get_or, drop, leb, drop-cons, drop-length, add-one, all_of, le-leb, lt-leb, all_next, all_fails, all_none}
use Rattle.product.specs.Optimizing.{sound_word}

abbrev pub symbol : ℕ → ℕ → Bool
symbol S x = leb 1 x && leb x S

module _ (S : ℕ) (word : List ℕ) where
  -- by its length
  pub wrong_length : 24 < length word → sound_word S word ≡ false
  unfolding sound_word
  wrong_length h = rw (lt-leb (length word) 24 h)

  pub right_length : length word ≤ 24 → all_of (symbol S) (drop 0 word) ≡ sound_word S word
  unfolding sound_word
  right_length h = rw (le-leb (length word) 24 h)

  -- by the rest of its symbols from a place on
  pub next_symbol : (at : ℕ) → at < length word → symbol S (get_or word at 0) ≡ true → all_of (symbol S) (drop (at + 1) word) ≡ all_of (symbol S) (drop at word)
  next_symbol at h t = rw add-one (all_next (symbol S) (drop-cons word at 0 h) t)

  pub wrong_symbol : (at : ℕ) → at < length word → symbol S (get_or word at 0) ≡ false → all_of (symbol S) (drop at word) ≡ false
  wrong_symbol at h t = all_fails (symbol S) (drop-cons word at 0 h) t

  pub no_symbol_left : all_of (symbol S) (drop (length word) word) ≡ true
  no_symbol_left = all_none (symbol S) (drop-length word)
