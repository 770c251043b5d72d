-- The best candidates of the words with one symbol from each set. Assumes nothing.
use Rattle.std.specs.Prelude.{◌≡◌}
use Rattle.basics.proofs.Words.{refl, sym, ◌∙◌, ap, true, List, List-as-Memᴰ, List·Memᴰ·head, List·Memᴰ·not-nil, List·Memᴰ·eq-of-singleton, Option, some, none, ℕ, joined, joined_member, member_joined}
use Rattle.machine.specs.declared.Pair.{Pair}
use Rattle.card.specs.Card.{machines_of, card_refusal}
use Rattle.candidate.specs.Candidates.{IsCandidate}
use Rattle.product.specs.Best.{Contender, contender_of, ProfileOrder, best_in}
use Rattle.product.specs.Sets.{fits_sets, are64_bits, IsCandidateOf, words_from, found, best_of_sets_in}
use Rattle.paths.specs.Total.{Upto, upto_trans, not_less_upto, asym, less_not_same}
use Rattle.paths.specs.Costs.{Costs}
use Rattle.paths.specs.Best.{Before, before_total}
use Rattle.product.specs.Prices.{Price, Agrees}
use Rattle.product.specs.ProductGraph.{pairs}
use Rattle.product.proofs.BestTheorem.{best_in_is_best_of_all}
use Rattle.product.specs.Laws.Preference.{key_of, Earlier, beats_earlier}
use Rattle.product.proofs.Listing.{least_member, least_upto}
use Rattle.product.proofs.Best.{best_contender}
use Rattle.product.specs.Laws.BestOfSets.{words_fit, fits_listed}

-- ---- their best candidates

module _ (better : ProfileOrder) (card sets : List ℕ) where
  -- what the definition finds is the best for one of the words
  pub record BestForOne (b : Contender) : Type 0 where
    pub word : List ℕ
    pub fits : fits_sets sets word ≡ true
    pub is_best : best_in better card word ≡ some b

  forms : List Contender
  forms = joined (λ word. found (best_in better card word)) (words_from sets)

  pub best_for_one : (b : Contender) → best_of_sets_in better card sets ≡ some b → BestForOne b
  unfolding best_of_sets_in forms
  best_for_one b e =
      let j = joined_member (λ word. found (best_in better card word)) (words_from sets) (least_member better forms b e) in
      record { word = j.0; fits = words_fit sets j.0 j.1; is_best = there (best_in better card j.0) j.2 }
    where
      there : (o : Option Contender) → List-as-Memᴰ b (found o) → o ≡ some b
      there none m = absurd (List·Memᴰ·not-nil m)
      there (some a) m = ap {B = Option Contender} some (sym (List·Memᴰ·eq-of-singleton m))

-- it finds something, and the candidate d does not come before it
pub record BestUpto {costs : Costs} (price : Price costs) (better : ProfileOrder) (card sets : List ℕ) (d : List Pair) : Type 0 where
  pub least : Contender
  pub is : best_of_sets_in better card sets ≡ some least
  pub upto : Upto (Before costs pairs) (key_of price least) (key_of price (contender_of (machines_of card) d))

module _ {costs : Costs} {price : Price costs} {better : ProfileOrder} (agrees : Agrees price better) (card : List ℕ) (ok : card_refusal card ≡ 0) where
  -- no candidate for a word comes before its best one
  upto_candidate : (word : List ℕ) (d : List Pair) → IsCandidate (machines_of card) word d → (b : Contender) → best_in better card word ≡ some b
      → Upto (Before costs pairs) (key_of price b) (key_of price (contender_of (machines_of card) d))
  upto_candidate word d h b e = not_less_upto (before_total costs pairs) (key_of price b) (key_of price (contender_of (machines_of card) d)) later
    where
      form : b ≡ contender_of (machines_of card) b.candidate
      form = best_contender agrees card word ok b e

      later : ¬ (Earlier price (contender_of (machines_of card) d) b)
      later k =
          let n : d ≡ b.candidate → ⊥ = λ q. less_not_same (before_total costs pairs) k (ap (λ c. key_of price (contender_of (machines_of card) c)) q ∙ ap (key_of price) (sym form)) in
          let p = ((best_in_is_best_of_all agrees card word ok).is_best b e).rivals d h n in
          asym (before_total costs pairs) (key_of price (contender_of (machines_of card) d)) (key_of price b) k (beats_earlier agrees b (contender_of (machines_of card) d) (rw (← form) at p))

  pub best_upto : (sets : List ℕ) → are64_bits sets ≡ true → (d : List Pair) → IsCandidateOf (machines_of card) sets d → BestUpto price better card sets d
  unfolding best_of_sets_in forms
  best_upto sets w d h = go (best_in better card h.word) refl
    where
      go : (o : Option Contender) → best_in better card h.word ≡ o → BestUpto price better card sets d
      go none e = absurd ((best_in_is_best_of_all agrees card h.word ok).none_exactly.0 e d h.is)
      go (some a) e =
          let m : List-as-Memᴰ a (forms better card sets) = member_joined (λ word. found (best_in better card word)) (fits_listed sets h.word w h.fits) (rw e (List·Memᴰ·head refl)) in
          let l = least_upto agrees m in
          record { least = l.least; is = l.is; upto = upto_trans (before_total costs pairs) l.upto (upto_candidate h.word d h.is a e) }
