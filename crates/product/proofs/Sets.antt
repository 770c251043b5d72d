-- How the check of sets ends. Assumes nothing.
use Rattle.std.specs.Prelude.{◌≡◌, ◌+◌, ◌<◌, ◌≤◌}
use Rattle.basics.proofs.Words.{true, false, List, ℕ, length, get_or, drop, drop-cons, drop-length, add-one, all_of, le-leb, lt-leb, all_next, all_fails, all_none}
use Rattle.refusals.specs.Refusals.{refuse}
use Rattle.refusals.proofs.Refusals.{last_one}
use Rattle.product.specs.OptimizingSets.{symbol_set, sets_refusal}

module _ (S : ℕ) (sets : List ℕ) where
  -- by their number
  pub too_many : 24 < length sets → sets_refusal S sets ≡ 8
  unfolding sets_refusal
  too_many h = rw (lt-leb (length sets) 24 h)

  pub few : length sets ≤ 24 → refuse 25 (all_of (symbol_set S) (drop 0 sets)) ≡ sets_refusal S sets
  unfolding sets_refusal
  few h = rw (le-leb (length sets) 24 h, last_one (refuse 25 (all_of (symbol_set S) sets)))

  -- by the rest of them from a place on
  pub next_set : (at : ℕ) → at < length sets → symbol_set S (get_or sets at 0) ≡ true → refuse 25 (all_of (symbol_set S) (drop (at + 1) sets)) ≡ refuse 25 (all_of (symbol_set S) (drop at sets))
  next_set at h t = rw (add-one, all_next (symbol_set S) (drop-cons sets at 0 h) t)

  pub wrong_set : (at : ℕ) → at < length sets → symbol_set S (get_or sets at 0) ≡ false → refuse 25 (all_of (symbol_set S) (drop at sets)) ≡ 25
  wrong_set at h t = rw (all_fails (symbol_set S) (drop-cons sets at 0 h) t)

  pub no_set_left : refuse 25 (all_of (symbol_set S) (drop (length sets) sets)) ≡ 0
  no_set_left = rw (all_none (symbol_set S) (drop-length sets))
