-- Laws of the tally: one line more, and a lesson that is full.
use Rattle.std.specs.Prelude.{◌≡◌, refl, true, false, List, [], ◌∷◌, ℕ, zero, suc, ◌+◌, ◌<◌, ◌≤◌, length, get_or}
use Rattle.std.proofs.Common.{ap, sym, arith, add-zero, le-leb}
use Rattle.std.proofs.Math.Option.{Option, some, none}
use Rattle.std.proofs.lemmas.Bool.{lt-leb}
use Rattle.tally.specs.declared.Tally.{Tally}
use Rattle.tally.specs.Tally.{added, counted, is_full, passed, Fits}

-- numbers added place by place
pub added_length : (ts cs : List ℕ) → length (added ts cs) ≡ length ts
unfolding added
added_length [] cs = refl
added_length (t ∷ ts) [] = refl
added_length (t ∷ ts) (c ∷ cs) = ap suc (added_length ts cs)

pub added_at : (ts cs : List ℕ) (i : ℕ) → i < length ts → get_or (added ts cs) i 0 ≡ get_or ts i 0 + get_or cs i 0
unfolding added
added_at [] cs i h = absurd (omega arith)
added_at (t ∷ ts) [] i h = sym (add-zero (get_or (t ∷ ts) i 0))
added_at (t ∷ ts) (c ∷ cs) zero h = refl
added_at (t ∷ ts) (c ∷ cs) (suc i) h = added_at ts cs i (omega arith)

-- one line more
pub counted_past : (t : Tally) (o : Option (List ℕ)) → (counted t o).past ≡ t.past
counted_past t none = refl
counted_past t (some counts) = refl

pub counted_lines_lem : (t : Tally) (o : Option (List ℕ)) → (counted t o).answered + (counted t o).refused ≡ t.answered + t.refused + 1
counted_lines_lem t none = omega arith
counted_lines_lem t (some counts) = omega arith

-- no sum wraps: 32 bits hold each total of a lesson
pub no_sum_wraps : (t : Tally) → Fits t → (i : ℕ) → get_or t.totals i 0 ≤ 65535000
no_sum_wraps t f i = omega (arith, f.few, f.small i)

-- a thousand lines, and fewer
pub full_at : (t : Tally) → 1000 ≤ t.answered + t.refused → is_full t ≡ true
unfolding is_full
full_at t h = le-leb 1000 (t.answered + t.refused) h

pub open_at : (t : Tally) → t.answered + t.refused < 1000 → is_full t ≡ false
unfolding is_full
open_at t h = lt-leb 1000 (t.answered + t.refused) h

pub full_passed : (t : Tally) → is_full t ≡ true → is_full (passed t) ≡ true
unfolding is_full
full_passed t f = f
