-- How far the counts of an answer go, by how far those of the best candidate go.
use Rattle.std.specs.Prelude.{◌≡◌, ◌∷◌, ◌++◌, ◌*◌, ◌-◌, ◌≤◌}
use Rattle.basics.proofs.Words.{refl, Bool, true, false, List, [], Option, some, none, ℕ, zero, suc, arith, length, replicate, leb, all_of, both, left, right}
use Rattle.std.proofs.Common.{le-leb}
use Rattle.refusals.specs.Refusals.{refuse, first_of, unless_refused}
use Rattle.candidate.specs.declared.Evaluation.{Evaluation}
use Rattle.candidate.specs.Evaluating.{refused}
use Rattle.product.specs.Best.{Contender}
use Rattle.product.specs.Answering.{evaluation_of, answered}
use Rattle.product.specs.CountsFit.{SmallBest}

-- at most 3,199 pairs and no count above 48,000; a refusal has 0 for each
pub record SmallAnswer (r : Evaluation) : Type 0 where
  pub few_pairs : r.pairs ≤ 3199
  pub small_counts : all_of (λ n. leb n 48000) r.profile.counts ≡ true

-- unused counts are 0
with_zeros : (xs : List ℕ) (b n : ℕ) → all_of (λ k. leb k b) xs ≡ true → all_of (λ k. leb k b) (xs ++ replicate n 0) ≡ true
unfolding all_of
with_zeros [] b zero t = refl
with_zeros [] b (suc n) t = both (le-leb 0 b (omega arith)) (with_zeros [] b n t)
with_zeros (x ∷ xs) b n t = both (left (leb x b) (all_of (λ k. leb k b) xs) t) (with_zeros xs b n (right (leb x b) (all_of (λ k. leb k b) xs) t))

-- what a call answers is small where the best of input that it accepts is; n is the number of the checks before its search
pub small_answer : (n : ℕ) (best : Option Contender) (word : List ℕ) (room : ℕ) → (n ≡ 0 → (b : Contender) → best ≡ some b → SmallBest b) → SmallAnswer (answered n best word room)
unfolding all_of answered
small_answer (suc n) best word room small = record { few_pairs = omega arith; small_counts = refl }
small_answer zero none word room small = record { few_pairs = omega arith; small_counts = refl }
small_answer zero (some b) word room small = go (leb (2 * length b.candidate) room)
  where
    go : (t : Bool) → SmallAnswer (unless_refused (first_of (refuse 12 t ∷ [])) (evaluation_of (some b) word) refused)
    go false = record { few_pairs = omega arith; small_counts = refl }
    go true = let s = small refl b refl in record { few_pairs = s.pairs; small_counts = with_zeros b.profile 48000 (6 - length b.profile) s.counts }
