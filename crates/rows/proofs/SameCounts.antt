-- Two profiles' counts are the same where they are so place by place. Assumes nothing.
use Rattle.std.specs.Prelude.{◌≡◌, ◌&&◌, ◌∷◌}
use Rattle.basics.proofs.Words.{refl, ◌∙◌, ap₂, Bool, true, false, List, [], ℕ, arith, length, get_or, eqb, every_below}
use lib.Pointwise.{pointwise}
use Rattle.rows.specs.Judging.{same_counts}

-- six counts, one by one
six : (v : List ℕ) → length v ≡ 6 → v ≡ get_or v 0 0 ∷ get_or v 1 0 ∷ get_or v 2 0 ∷ get_or v 3 0 ∷ get_or v 4 0 ∷ get_or v 5 0 ∷ []
six (a ∷ b ∷ c ∷ d ∷ e ∷ f ∷ []) h = refl
six [] h = absurd (omega arith)
six (a ∷ []) h = absurd (omega arith)
six (a ∷ b ∷ []) h = absurd (omega arith)
six (a ∷ b ∷ c ∷ []) h = absurd (omega arith)
six (a ∷ b ∷ c ∷ d ∷ []) h = absurd (omega arith)
six (a ∷ b ∷ c ∷ d ∷ e ∷ []) h = absurd (omega arith)
six (a ∷ b ∷ c ∷ d ∷ e ∷ f ∷ g ∷ v) h = absurd (omega arith)

six_tests : (a b c d e f : Bool) → (a && (b && (c && (d && (e && (f && true)))))) ≡ (a && b && c && d && e && f)
six_tests false b c d e f = refl
six_tests true false c d e f = refl
six_tests true true false d e f = refl
six_tests true true true false e f = refl
six_tests true true true true false f = refl
six_tests true true true true true false = refl
six_tests true true true true true true = refl

pub same_six : (v w : List ℕ) → length v ≡ 6 → length w ≡ 6 → pointwise eqb v w ≡ same_counts v w
unfolding same_counts every_below
same_six v w h k =
    ap₂ (λ (s t : List ℕ). pointwise eqb s t) (six v h) (six w k)
    ∙ six_tests (eqb (get_or v 0 0) (get_or w 0 0)) (eqb (get_or v 1 0) (get_or w 1 0)) (eqb (get_or v 2 0) (get_or w 2 0)) (eqb (get_or v 3 0) (get_or w 3 0)) (eqb (get_or v 4 0) (get_or w 4 0)) (eqb (get_or v 5 0) (get_or w 5 0))
