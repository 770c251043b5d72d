-- Being preferred, case by case, is beating in the order of preference. Assumes nothing.
use Rattle.std.specs.Prelude.{◌≡◌, ◌&&◌, ◌⊎◌, ◌<◌}
use Rattle.basics.proofs.Words.{refl, ap, Bool, true, false, not, false≢true, List, inl, inr, length, eqb, ltb, clash, both, left, right, either}
use Rattle.std.proofs.Common.{eqb-true, ltb-true, eq-eqb, lt-ltb}
use Rattle.machine.specs.declared.Pair.{Pair}
use Rattle.ranking.specs.ByteStrings.{smaller}
use Rattle.candidate.specs.Candidates.{bytes_of}
use Rattle.product.specs.Best.{Contender, wins_tie, ProfileOrder, preferred}
use Rattle.product.specs.Prices.{Alike}
use Rattle.product.specs.BestCandidate.{BeatsIn, by_profile, by_pairs, by_bytes}
use Rattle.product.specs.Laws.Preference.{or_left, or_right, decided}

-- ---- being preferred, case by case

abbrev WinsTie : List Pair → List Pair → Type 0
WinsTie c d = (length c < length d) ⊎ ((length c ≡ length d) × (smaller (bytes_of c) (bytes_of d) ≡ true))

tie_cases : (c d : List Pair) → wins_tie c d ≡ true → WinsTie c d
unfolding wins_tie
tie_cases c d h = go (either (ltb (length c) (length d)) (eqb (length c) (length d) && smaller (bytes_of c) (bytes_of d)) h)
  where
    go : (ltb (length c) (length d) ≡ true) ⊎ ((eqb (length c) (length d) && smaller (bytes_of c) (bytes_of d)) ≡ true) → WinsTie c d
    go (inl k) = inl (ltb-true (length c) (length d) k)
    go (inr k) = inr (eqb-true (length c) (length d) (left (eqb (length c) (length d)) (smaller (bytes_of c) (bytes_of d)) k), right (eqb (length c) (length d)) (smaller (bytes_of c) (bytes_of d)) k)

cases_tie : (c d : List Pair) → WinsTie c d → wins_tie c d ≡ true
unfolding wins_tie
cases_tie c d (inl k) = or_left (eqb (length c) (length d) && smaller (bytes_of c) (bytes_of d)) (lt-ltb (length c) (length d) k)
cases_tie c d (inr k) = or_right (ltb (length c) (length d)) (both (eq-eqb (length c) (length d) k.0) k.1)

not-true : (a : Bool) → not a ≡ true → a ≡ false
not-true true e = absurd (false≢true e)
not-true false e = refl

module _ {better : ProfileOrder} (a b : Contender) where
  pub preferred_beats : preferred better a b ≡ true → BeatsIn better a b
  unfolding preferred
  preferred_beats h = go (decided here) (either here (not there && next) h)
    where
      here : Bool
      here = better a.profile b.profile

      there : Bool
      there = better b.profile a.profile

      next : Bool
      next = wins_tie a.candidate b.candidate

      by_tie : Alike better a.profile b.profile → WinsTie a.candidate b.candidate → BeatsIn better a b
      by_tie e (inl k) = by_pairs e k
      by_tie e (inr k) = by_bytes e k.0 k.1

      go : (here ≡ true) ⊎ (here ≡ false) → (here ≡ true) ⊎ ((not there && next) ≡ true) → BeatsIn better a b
      go (inl e) k = by_profile e
      go (inr e) (inl k) = absurd (clash k e)
      go (inr e) (inr k) = by_tie (e, not-true there (left (not there) next k)) (tie_cases a.candidate b.candidate (right (not there) next k))

  pub beats_preferred : BeatsIn better a b → preferred better a b ≡ true
  unfolding preferred
  beats_preferred = go
    where
      alike : Alike better a.profile b.profile → WinsTie a.candidate b.candidate → preferred better a b ≡ true
      alike e k = or_right (better a.profile b.profile) (both (ap not e.1) (cases_tie a.candidate b.candidate k))

      go : BeatsIn better a b → preferred better a b ≡ true
      go (by_profile e) = or_left (not (better b.profile a.profile) && wins_tie a.candidate b.candidate) e
      go (by_pairs e k) = alike e (inl k)
      go (by_bytes e k s) = alike e (inr (k, s))
