-- What evaluation answers, by the checks that it passes. Assumes nothing.
use Rattle.std.specs.Prelude.{◌≡◌, ◌<◌}
use Rattle.basics.specs.Words.{true, false, List, ℕ, zero, suc, arith, length}
use Rattle.card.specs.Layout.{symbol_count}
use Rattle.card.specs.Card.{card_refusal, machines_of}
use Rattle.candidate.specs.Candidates.{pairs_of, spelled, is_complete, profile_of}
use Rattle.candidate.specs.Evaluating.{sound_candidate, profile_with, refused, evaluating}

module _ (card bytes : List ℕ) where
  pub card_refused : (n : ℕ) → card_refusal card ≡ n → 0 < n → evaluating card bytes ≡ refused n
  unfolding evaluating
  card_refused zero e h = absurd (omega arith)
  card_refused (suc n) e h = rw e

  pub candidate_refused : card_refusal card ≡ 0 → sound_candidate (symbol_count card) bytes ≡ false → evaluating card bytes ≡ refused 13
  unfolding evaluating
  candidate_refused e f = rw (e, f)

  pub completion_refused : card_refusal card ≡ 0 → sound_candidate (symbol_count card) bytes ≡ true → is_complete (machines_of card) (pairs_of bytes) ≡ false → evaluating card bytes ≡ refused 14
  unfolding evaluating
  completion_refused e f g = rw (e, f, g)

  pub evaluated : card_refusal card ≡ 0 → sound_candidate (symbol_count card) bytes ≡ true → is_complete (machines_of card) (pairs_of bytes) ≡ true
      → evaluating card bytes ≡ record { number = 0; profile = profile_with (profile_of (machines_of card) (pairs_of bytes)); pairs = length (pairs_of bytes); word_length = length (spelled (pairs_of bytes)) }
  unfolding evaluating
  evaluated e f g = rw (e, f, g)
