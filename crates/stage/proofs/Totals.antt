-- The sum of the weights of a position's labels falls when one of them does: so a stage ends.
use Rattle.std.specs.Prelude.{◌≡◌, ◌≢◌, ◌+◌, ◌≤◌, ◌<◌}
use Rattle.basics.specs.Words.{refl, ap, Option, none, some, inl, inr, ℕ, zero, suc, arith, ℕ_discrete}
use Rattle.paths.specs.Costs.{Above}
use Rattle.paths.specs.Ranked.{Ranked, Less}
use Rattle.stage.specs.StageLabels.{height, total}

pub height_less : (o : Option (Ranked 1)) (c : Ranked 1) → Above (Less 1) o c → c.0 < 65536 → c.1 < 65536 → height (some c) < height o
height_less none c a h k = omega arith
height_less (some d) c a h k = go (a d refl)
  where
    go : Less 1 c d → height (some c) < height (some d)
    go (inl l) = omega arith
    go (inr l) = omega (arith, l.0, l.1)

total_same : (L M : ℕ → Option (Ranked 1)) (b P : ℕ) → ((w : ℕ) → b ≤ w → w < b + P → M w ≡ L w) → total M b P ≡ total L b P
unfolding total
total_same L M b zero f = refl
total_same L M b (suc P) f = omega (arith, ap height (f (b + P) (omega arith) (omega arith)), total_same L M b P (λ w h k. f w h (omega arith)))

pub total_less : (L M : ℕ → Option (Ranked 1)) (u : ℕ) → height (M u) < height (L u) → ((w : ℕ) → w ≢ u → M w ≡ L w) → (b P : ℕ) → b ≤ u → u < b + P → total M b P < total L b P
unfolding total
total_less L M u h f b zero k l = absurd (omega arith)
total_less L M u h f b (suc P) k l = go (ℕ_discrete u (b + P)) (total_less L M u h f b P k)
  where
    go : Dec (u ≡ b + P) → (u < b + P → total M b P < total L b P) → height (M (b + P)) + total M b P < height (L (b + P)) + total L b P
    go (yes q) rec = let z : height (M (b + P)) < height (L (b + P)) = rw (← q) h in omega (arith, z, total_same L M b P (λ w i j. f w (omega arith)))
    go (no n) rec = omega (arith, ap height (f (b + P) (omega arith)), rec (omega arith))
