-- What sound weights are.
use Rattle.std.specs.Prelude.{◌≡◌}
use Rattle.basics.proofs.Words.{true, List, ℕ, length, eqb, leb, all_of, left, right}
use Rattle.std.proofs.Common.{eqb-true}
use Rattle.product.specs.Weights.{sound_weights}

pub record Weighs (K : ℕ) (weights : List ℕ) : Type 0 where
  pub count : length weights ≡ K
  pub most : all_of (λ w. leb w 4000000000) weights ≡ true

pub weighs : (K : ℕ) (weights : List ℕ) → sound_weights K weights ≡ true → Weighs K weights
unfolding sound_weights
weighs K weights sound = record {
  count = eqb-true (length weights) K (left (eqb (length weights) K) (all_of (λ w. leb w 4000000000) weights) sound);
  most = right (eqb (length weights) K) (all_of (λ w. leb w 4000000000) weights) sound;
}
