-- The theorem on the best candidate, over the definitions alone: the definition looks at lists of fewer pairs than there are nodes, and what it
-- finds is the best of the lists of any length. It holds for every accepted card, every ranking and every word, the empty one too.
use Rattle.std.specs.Prelude.{◌≡◌}
use Rattle.basics.specs.Words.{sym, ◌∙◌, List, ℕ}
use Rattle.card.specs.Card.{machines_of}
use Rattle.candidate.specs.Candidates.{IsCandidate}
use Rattle.product.specs.Best.{Contender, ProfileOrder, best}
use Rattle.product.specs.Prices.{Alike}
use Rattle.product.specs.BestCandidate.{BeatsIn, by_profile, by_pairs, by_bytes, Beats, BestOf}

-- orders that compare two profiles alike prefer alike
pub beats_alike : {better better' : ProfileOrder} {a b : Contender} → better a.profile b.profile ≡ better' a.profile b.profile → better b.profile a.profile ≡ better' b.profile a.profile → BeatsIn better a b → BeatsIn better' a b
beats_alike {better} {better'} {a} {b} p q = go
  where
    neither : Alike better a.profile b.profile → Alike better' a.profile b.profile
    neither e = (sym p ∙ e.0, sym q ∙ e.1)

    go : BeatsIn better a b → BeatsIn better' a b
    go (by_profile e) = by_profile (sym p ∙ e)
    go (by_pairs e k) = by_pairs (neither e) k
    go (by_bytes e k l) = by_bytes (neither e) k l

-- ---- under a ranking

abbrev pub BestOfAll : (card ranking word : List ℕ) → Type 0
BestOfAll card ranking word = BestOf (machines_of card) (Beats ranking (machines_of card)) (IsCandidate (machines_of card) word) (best card ranking word)
