-- Six lengths that are read one by one. Assumes nothing.
use Rattle.std.specs.Prelude.{◌≡◌, ◌∷◌, ◌<◌, ◌≤◌}
use Rattle.basics.specs.Words.{[], ℕ, zero, suc, arith, get_or}

pub six_lengths : (L : ℕ → ℕ) {K : ℕ} (a b c d e f : ℕ) → K ≤ 6 → (0 < K → a ≡ L 0) → (1 < K → b ≡ L 1) → (2 < K → c ≡ L 2) → (3 < K → d ≡ L 3) → (4 < K → e ≡ L 4) → (5 < K → f ≡ L 5)
    → (i : ℕ) → i < K → get_or (a ∷ b ∷ c ∷ d ∷ e ∷ f ∷ []) i 0 ≡ L i
six_lengths L a b c d e f k p q r s t u zero h = p h
six_lengths L a b c d e f k p q r s t u (suc zero) h = q h
six_lengths L a b c d e f k p q r s t u (suc (suc zero)) h = r h
six_lengths L a b c d e f k p q r s t u (suc (suc (suc zero))) h = s h
six_lengths L a b c d e f k p q r s t u (suc (suc (suc (suc zero)))) h = t h
six_lengths L a b c d e f k p q r s t u (suc (suc (suc (suc (suc zero))))) h = u h
six_lengths L a b c d e f k p q r s t u (suc (suc (suc (suc (suc (suc i)))))) h = omega (arith, k, h)
