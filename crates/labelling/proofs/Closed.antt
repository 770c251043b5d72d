-- A position closed in counts, or in numbers, is closed in the slice that is there. Assumes nothing.
use Rattle.std.specs.Prelude.{◌≡◌}
use Rattle.basics.specs.Words.{refl, sym, ◌∙◌, List, ℕ, length}
use Rattle.closing.specs.Closing.{CountsClosed, SumsClosed, AllPassed, ClosedAt}

module _ {ranked sums own own' next next' : List ℕ} {base P : ℕ} where
  pub counts_closed : length sums ≡ 0 → {ranked' : List ℕ} → CountsClosed ranked ranked' own base P → AllPassed own own' next next' P → ClosedAt ranked ranked' sums sums own own' next next' base P
  counts_closed z C A = record {
    ranked_size = C.size;
    sums_size = refl;
    written = record {
      held = λ c h. record { counts = λ _. C.written.held c h; in_sum = λ n. absurd (n z) };
      others = λ w o h k. record { counts = λ _. C.written.others w o h (k.counts z); in_sum = λ n. absurd (n z) };
    };
    passed = A;
  }

  pub sums_closed : (length sums ≡ 0 → ⊥) → {sums' : List ℕ} → SumsClosed sums sums' own base P → AllPassed own own' next next' P → ClosedAt ranked ranked sums sums' own own' next next' base P
  sums_closed n C A = record {
    ranked_size = refl;
    sums_size = C.size;
    written = record {
      held = λ c h. record { counts = λ z. absurd (n (sym C.size ∙ z)); in_sum = λ _. C.written.held c h };
      others = λ w o h k. record { counts = λ z. absurd (n (sym C.size ∙ z)); in_sum = λ _. C.written.others w o h (k.in_sum n) };
    };
    passed = A;
  }
