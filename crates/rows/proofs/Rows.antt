-- How the checks of a row go on and end. Assumes nothing.
use Rattle.std.specs.Prelude.{◌≡◌, ◌+◌, ◌-◌, ◌<◌, ◌≤◌}
use Rattle.basics.proofs.Words.{refl, Bool, true, false, List, ℕ, arith, length, get_or, take, drop, length-drop, eqb, take_all, all_of, eq-eqb, ne_eqb, le-leb, lt-leb, left_next, left_none, all_none, all_next, all_fails}
use Rattle.std.proofs.Common.{Result, Ok, Err}
use Rattle.std.specs.Result.{is_ok}
use Rattle.refusals.specs.declared.Refusal.{Refusal}
use Rattle.refusals.specs.Refusals.{checked_number, refuse}
use Rattle.refusals.proofs.Refusals.{number_positive}
use Rattle.card.specs.Layout.{symbol_count}
use Rattle.card.specs.Card.{machines_of}
use Rattle.candidate.specs.Candidates.{pairs_of, spelled, is_complete}
use Rattle.candidate.specs.Evaluating.{sound_candidate}
use Rattle.product.specs.Best.{same_word}
use Rattle.rows.specs.Tableau.{counts_of, candidate_of, sound_row}
use Rattle.rows.specs.Judging.{is_for_word}

-- the counts from a place on are 0
abbrev pub zeros_from : List ℕ → ℕ → Bool
zeros_from row m = all_of (λ n. eqb n 0) (drop m (counts_of row))

module _ (row : List ℕ) where
  pub row_short : (K : ℕ) → length row < 12 → sound_row K row ≡ false
  unfolding sound_row
  row_short K h = rw (lt-leb 12 (length row) h)

  pub row_long : (K : ℕ) → 12 ≤ length row → sound_row K row ≡ zeros_from row K
  unfolding sound_row
  row_long K h = rw (le-leb 12 (length row) h)

  pub zero_next : (m : ℕ) → m < 6 → get_or (counts_of row) m 0 ≡ 0 → zeros_from row (m + 1) ≡ zeros_from row m
  zero_next m h e = all_next (λ n. eqb n 0) (left_next (counts_of row) m h) (eq-eqb (get_or (counts_of row) m 0) 0 e)

  pub not_zero : (m : ℕ) → m < 6 → (get_or (counts_of row) m 0 ≡ 0 → ⊥) → zeros_from row m ≡ false
  not_zero m h n = all_fails (λ k. eqb k 0) (left_next (counts_of row) m h) (ne_eqb (get_or (counts_of row) m 0) 0 n)

  pub zero_end : zeros_from row 6 ≡ true
  zero_end = all_none (λ n. eqb n 0) (left_none (counts_of row) 6 (omega arith))

-- a row from its twelfth byte on
pub candidate_bytes : (row : List ℕ) → take (length row - 12) (drop 12 row) ≡ candidate_of row
candidate_bytes row = take_all (length row - 12) (drop 12 row) (omega (arith, length-drop 12 row))

-- a row's candidate, test by test
module _ (card word row : List ℕ) where
  pub not_sound : sound_candidate (symbol_count card) (candidate_of row) ≡ false → is_for_word card word row ≡ false
  unfolding is_for_word
  not_sound f = rw f

  pub not_complete : sound_candidate (symbol_count card) (candidate_of row) ≡ true → is_complete (machines_of card) (pairs_of (candidate_of row)) ≡ false → is_for_word card word row ≡ false
  unfolding is_for_word
  not_complete t f = rw (t, f)

  pub word_decides : sound_candidate (symbol_count card) (candidate_of row) ≡ true → is_complete (machines_of card) (pairs_of (candidate_of row)) ≡ true
      → is_for_word card word row ≡ same_word (spelled (pairs_of (candidate_of row))) word
  unfolding is_for_word
  word_decides t s = rw (t, s)

-- a check passes where its test does
pub passes_where : {A : Type 0} (r : Result A Refusal) (n : ℕ) (b : Bool) → 0 < n → checked_number r ≡ refuse n b → is_ok r ≡ b
passes_where (Ok a) n true h e = refl
passes_where (Ok a) n false h e = absurd (omega arith)
passes_where (Err x) n true h e = absurd (omega (arith, number_positive x))
passes_where (Err x) n false h e = refl
