-- Labels written code by code, whatever tells the labels of nodes. Assumes nothing.
use Rattle.std.specs.Prelude.{◌≡◌, ◌⊎◌, ◌≢◌, ◌+◌, ◌<◌, ◌≤◌}
use Rattle.basics.specs.Words.{sym, subst, List, Option, inl, inr, ℕ, arith, ℕ_discrete}
use Rattle.paths.specs.Ranked.{Ranked}
use Rattle.cells.specs.Labels.{cell_at}
use Rattle.cells.specs.Trying.{label_from}
use Rattle.closing.specs.Closing.{Written}

pub written_start : {Had : ℕ → Option (Ranked 1) → Type 0} {own : List ℕ} {base : ℕ} → Written Had Had own base 0
written_start = record { held = λ c h. absurd (omega arith); others = λ w o h k. k }

pub written_next : {Had Has Has' : ℕ → Option (Ranked 1) → Type 0} {own : List ℕ} {base n : ℕ} → Written Had Has own base n → Has' (base + n) (label_from (cell_at own n))
    → ((w : ℕ) (o : Option (Ranked 1)) → w ≢ base + n → Has w o → Has' w o) → Written Had Has' own base (n + 1)
written_next {Had} {Has} {Has'} {own} {base} {n} B here rest = record { held = λ c h. held c h (ℕ_discrete c n); others = others }
  where
    held : (c : ℕ) → c < n + 1 → Dec (c ≡ n) → Has' (base + c) (label_from (cell_at own c))
    held c h (yes e) = subst (λ (c : ℕ). Has' (base + c) (label_from (cell_at own c))) (sym e) here
    held c h (no d) = rest (base + c) (label_from (cell_at own c)) (λ e. d (omega arith)) (B.held c (omega arith))

    others : (w : ℕ) (o : Option (Ranked 1)) → (w < base) ⊎ (base + (n + 1) ≤ w) → Had w o → Has' w o
    others w o (inl h) k = rest w o (λ e. omega arith) (B.others w o (inl h) k)
    others w o (inr h) k = rest w o (λ e. omega arith) (B.others w o (inr (omega arith)) k)
