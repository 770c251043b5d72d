-- The theorem on the best candidate, for weights: what the definition finds among the lists of fewer pairs than there are nodes is the best of the
-- lists of any length. It holds for every accepted card, all weights, zero too, and every word.
use Rattle.std.specs.Prelude.{◌≡◌, ◌<◌, ◌≤◌}
use Rattle.basics.specs.Words.{true, List, some, ℕ, arith, length}
use Rattle.std.proofs.Common.{ltb-true, ltb-false, lt-ltb, le-ltb}
use Rattle.machine.specs.declared.Pair.{Pair}
use Rattle.machine.specs.Machine.{Machine}
use Rattle.ranking.specs.ByteStrings.{smaller}
use Rattle.card.specs.Layout.{machine_count}
use Rattle.card.specs.Card.{machines_of, card_refusal}
use Rattle.card.specs.Accepted.{accepted}
use Rattle.candidate.specs.Candidates.{bytes_of, profile_of, IsCandidate}
use Rattle.product.specs.Best.{Contender}
use Rattle.paths.specs.Total.{lex_total, same?}
use Rattle.product.specs.ProductGraph.{pairs}
use Rattle.product.specs.Prices.{Alike}
use Rattle.product.specs.BestCandidate.{IsBestBy, by_profile, by_pairs, by_bytes, BeatsOn, BestOf}
use Rattle.product.proofs.BestTheorem.{best_in_is_best_of_all}
use Rattle.product.specs.CountsFit.{SmallBest}
use Rattle.product.proofs.CountsFit.{best_in_is_small}
use Rattle.product.specs.Laws.BestCandidate.{best_of_by}
use Rattle.product.specs.Weights.{sound_weights, weighted_sum, by_sum, best_by_weights}
use Rattle.product.specs.Laws.Sums.{sum_bound}
use Rattle.product.specs.Laws.SoundWeights.{weighs}
use Rattle.product.specs.WeightedPaths.{weights_agree}

-- c beats d: it has the smaller sum; or an equal sum and fewer pairs; or an equal sum, as many pairs and the smaller byte string
pub data BeatsBySum (weights : List ℕ) (ms : List Machine) (c d : List Pair) : Type 0 where
  smaller_sum : weighted_sum weights (profile_of ms c) < weighted_sum weights (profile_of ms d) → BeatsBySum weights ms c d
  fewer_pairs : weighted_sum weights (profile_of ms c) ≡ weighted_sum weights (profile_of ms d) → length c < length d → BeatsBySum weights ms c d
  smaller_bytes : weighted_sum weights (profile_of ms c) ≡ weighted_sum weights (profile_of ms d) → length c ≡ length d → smaller (bytes_of c) (bytes_of d) ≡ true → BeatsBySum weights ms c d

-- c is a candidate for the word, and beats every other one, however long
abbrev pub IsBestByWeights : (weights : List ℕ) (ms : List Machine) (word : List ℕ) → List Pair → Type 0
IsBestByWeights weights ms word c = IsBestBy (BeatsBySum weights ms) (IsCandidate ms word) c

module _ (weights : List ℕ) (ms : List Machine) where
  same_sums : (c d : List Pair) → Alike (by_sum weights) (profile_of ms c) (profile_of ms d) → weighted_sum weights (profile_of ms c) ≡ weighted_sum weights (profile_of ms d)
  same_sums c d k = omega (arith, ltb-false (weighted_sum weights (profile_of ms c)) (weighted_sum weights (profile_of ms d)) k.0, ltb-false (weighted_sum weights (profile_of ms d)) (weighted_sum weights (profile_of ms c)) k.1)

  beats_by_sum : (c d : List Pair) → BeatsOn (by_sum weights) ms c d → BeatsBySum weights ms c d
  beats_by_sum c d (by_profile k) = smaller_sum (ltb-true (weighted_sum weights (profile_of ms c)) (weighted_sum weights (profile_of ms d)) k)
  beats_by_sum c d (by_pairs k l) = fewer_pairs (same_sums c d k) l
  beats_by_sum c d (by_bytes k l m) = smaller_bytes (same_sums c d k) l m

  alike_sums : (c d : List Pair) → weighted_sum weights (profile_of ms c) ≡ weighted_sum weights (profile_of ms d) → Alike (by_sum weights) (profile_of ms c) (profile_of ms d)
  alike_sums c d e = (le-ltb (weighted_sum weights (profile_of ms c)) (weighted_sum weights (profile_of ms d)) (omega arith), le-ltb (weighted_sum weights (profile_of ms d)) (weighted_sum weights (profile_of ms c)) (omega arith))

  pub sum_beats : (c d : List Pair) → BeatsBySum weights ms c d → BeatsOn (by_sum weights) ms c d
  sum_beats c d (smaller_sum h) = by_profile (lt-ltb (weighted_sum weights (profile_of ms c)) (weighted_sum weights (profile_of ms d)) h)
  sum_beats c d (fewer_pairs e h) = by_pairs (alike_sums c d e) h
  sum_beats c d (smaller_bytes e h m) = by_bytes (alike_sums c d e) h m

-- the best of the definition is the best of the lists of pairs of any length
abbrev pub BestOfAllByWeights : (card weights word : List ℕ) → Type 0
BestOfAllByWeights card weights word = BestOf (machines_of card) (BeatsBySum weights (machines_of card)) (IsCandidate (machines_of card) word) (best_by_weights card weights word)

pub weighted_best_is_best_of_all : (card weights word : List ℕ) → card_refusal card ≡ 0 → BestOfAllByWeights card weights word
unfolding best_by_weights
weighted_best_is_best_of_all card weights word ok = best_of_by (beats_by_sum weights (machines_of card)) (sum_beats weights (machines_of card)) (best_in_is_best_of_all (weights_agree weights) card word ok)

-- no candidate, however long, has a smaller sum
pub smallest_sum : (card weights word : List ℕ) → card_refusal card ≡ 0 → (b : Contender) → best_by_weights card weights word ≡ some b → (d : List Pair) → IsCandidate (machines_of card) word d
    → weighted_sum weights b.profile ≤ weighted_sum weights (profile_of (machines_of card) d)
smallest_sum card weights word ok b e d h = rw (all.its_profile b e) (go (same? (lex_total pairs.◌◃◌ pairs.total) d b.candidate))
  where
    all : BestOfAllByWeights card weights word
    all = weighted_best_is_best_of_all card weights word ok

    sum_at_lem : List Pair → ℕ
    sum_at_lem c = weighted_sum weights (profile_of (machines_of card) c)

    by : BeatsBySum weights (machines_of card) b.candidate d → sum_at_lem b.candidate ≤ sum_at_lem d
    by (smaller_sum k) = omega arith
    by (fewer_pairs k l) = omega arith
    by (smaller_bytes k l m) = omega arith

    go : Dec (d ≡ b.candidate) → sum_at_lem b.candidate ≤ sum_at_lem d
    go (yes q) = rw q (omega arith)
    go (no n) = by ((all.is_best b e).rivals d h n)

-- of a word of at most 24 symbols it has at most 3,199 pairs and no count above 48,000
pub weighted_best_is_small : (card weights word : List ℕ) → card_refusal card ≡ 0 → length word ≤ 24 → (b : Contender) → best_by_weights card weights word ≡ some b → SmallBest b
unfolding best_by_weights
weighted_best_is_small card weights word ok h b e = best_in_is_small (weights_agree weights) card ok word h b e

-- with sound weights its sum is at most six times 48,000 times 4,000,000,000, far below 2^64
pub sum_fits : (card weights word : List ℕ) → card_refusal card ≡ 0 → sound_weights (machine_count card) weights ≡ true → length word ≤ 24
    → (b : Contender) → best_by_weights card weights word ≡ some b → weighted_sum weights b.profile ≤ 1152000000000000
sum_fits card weights word ok sound h b e =
    let w = weighs (machine_count card) weights sound in
    let a = accepted card ok in
    omega (arith, w.count, a.head, sum_bound 4000000000 48000 weights b.profile w.most (weighted_best_is_small card weights word ok h b e).counts)
