-- Where the engine of rankings and the engine of weights both answer for one card and word, all weights are above zero and each is more than c times
-- the sum of those ranked below it, c being the largest count in the two profiles, the two give the same candidate and profile.
use Rattle.std.specs.Prelude.{◌≡◌, ◌∷◌, ◌≤◌}
use Rattle.basics.proofs.Words.{refl, true, List, [], some, ℕ, max, arith, length, leb, le-max_left, le-max_right, all_of, both, all_member, each_member}
use Rattle.std.proofs.Common.{leb-true, le-leb}
use Rattle.ranking.specs.Rankings.{is_ranking}
use Rattle.card.specs.Layout.{machine_count}
use Rattle.card.specs.Card.{card_refusal}
use Rattle.product.specs.Best.{Contender, best}
use Rattle.product.specs.Prices.{ranking_agrees}
use Rattle.product.proofs.BestTheorem.{same_best}
use Rattle.product.specs.Weights.{best_by_weights}
use Rattle.product.specs.Dominance.{Outweighs}
use Rattle.product.specs.DominanceTheorem.{dominance}
use Rattle.product.specs.WeightedPaths.{weights_agree}

-- the largest of a profile's counts
unfoldable pub largest : List ℕ → ℕ
largest [] = 0
largest (n ∷ v) = max n (largest v)

all_below : (v : List ℕ) (a b : ℕ) → a ≤ b → all_of (λ n. leb n a) v ≡ true → all_of (λ n. leb n b) v ≡ true
all_below v a b h t = each_member (λ n. leb n b) v (λ n m. le-leb n b (omega (arith, leb-true n a (all_member (λ n. leb n a) t m))))

up_to_largest : (v : List ℕ) → all_of (λ n. leb n (largest v)) v ≡ true
unfolding largest all_of
up_to_largest [] = refl
up_to_largest (n ∷ v) = both (le-leb n (max n (largest v)) (le-max_left n (largest v))) (all_below v (largest v) (max n (largest v)) (le-max_right n (largest v)) (up_to_largest v))

module _ (card weights ranking word : List ℕ) (ok : card_refusal card ≡ 0) (ranks : is_ranking (machine_count card) ranking ≡ true) (weighs : length weights ≡ machine_count card) where
  -- for any c that no count of the two is above
  pub agreement_up_to : (c : ℕ) (a b : Contender) → best card ranking word ≡ some a → best_by_weights card weights word ≡ some b
      → all_of (λ n. leb n c) a.profile ≡ true → all_of (λ n. leb n c) b.profile ≡ true → Outweighs c weights ranking → a ≡ b
  unfolding best best_by_weights
  agreement_up_to c a b ea eb ha hb d =
      same_best (ranking_agrees ranking) (weights_agree weights) card word ok a b ea eb
      (dominance c weights ranking a.profile b.profile (rw weighs ranks) d ha hb)
      (dominance c weights ranking b.profile a.profile (rw weighs ranks) d hb ha)

  pub agreement : (a b : Contender) → best card ranking word ≡ some a → best_by_weights card weights word ≡ some b
      → Outweighs (max (largest a.profile) (largest b.profile)) weights ranking → a ≡ b
  agreement a b ea eb d =
      let c = max (largest a.profile) (largest b.profile) in
      agreement_up_to c a b ea eb
      (all_below a.profile (largest a.profile) c (le-max_left (largest a.profile) (largest b.profile)) (up_to_largest a.profile))
      (all_below b.profile (largest b.profile) c (le-max_right (largest a.profile) (largest b.profile)) (up_to_largest b.profile))
      d
