-- The tally as it is made. Assumes nothing.
use mathlib.Core.Path.{◌≡◌, ap, sym, ◌∙◌}
use mathlib.Core.List.{List, [], ◌∷◌}
use mathlib.Core.Option.{some}
use Prim.Native.Nat.{ℕ, ◌+◌, ◌<◌, zero-le}
use native.Mathlib.Omega.{arith}
use lib.Dec.{lit<}
use lib.ListN.{length, get_or}
use Rattle.writing.proofs.Lists.{six_numbers, six_below}
use Rattle.tally.specs.declared.Tally.{Tally}
use Rattle.tally.specs.Tally.{no_lines, added, counted, Fits}
use Rattle.tally.specs.TallyLaws.{added_length, added_at}

-- no line yet
pub none_fits : Fits no_lines
none_fits = record { few = zero-le; small = λ i. omega (arith, six_below 1 {a = 0} {b = 0} {c = 0} {d = 0} {e = 0} {f = 0} (lit< tt) (lit< tt) (lit< tt) (lit< tt) (lit< tt) (lit< tt) i) }

-- the six sums of an answered line
module _ (t : Tally) (counts : List ℕ) (six : length t.totals ≡ 6) {a b c d e f : ℕ} where
  pub sums_added : a ≡ get_or t.totals 0 0 + get_or counts 0 0 → b ≡ get_or t.totals 1 0 + get_or counts 1 0 → c ≡ get_or t.totals 2 0 + get_or counts 2 0
      → d ≡ get_or t.totals 3 0 + get_or counts 3 0 → e ≡ get_or t.totals 4 0 + get_or counts 4 0 → f ≡ get_or t.totals 5 0 + get_or counts 5 0
      → (a ∷ b ∷ c ∷ d ∷ e ∷ f ∷ []) ≡ added t.totals counts
  sums_added p q r s u v =
      six_numbers (added t.totals counts) (added_length t.totals counts ∙ six)
      (p ∙ at 0 (omega arith)) (q ∙ at 1 (omega arith)) (r ∙ at 2 (omega arith)) (s ∙ at 3 (omega arith)) (u ∙ at 4 (omega arith)) (v ∙ at 5 (omega arith))
    where
      at : (i : ℕ) → i < length t.totals → get_or t.totals i 0 + get_or counts i 0 ≡ get_or (added t.totals counts) i 0
      at i h = sym (added_at t.totals counts i h)

-- the tally with them
with_totals : Tally → List ℕ → Tally
with_totals t totals = record { answered = t.answered + 1; refused = t.refused; totals = totals; past = t.past }

pub answered_tally : (t : Tally) (counts : List ℕ) {totals : List ℕ} → totals ≡ added t.totals counts
    → ◌≡◌ {A = Tally} (record { answered = t.answered + 1; refused = t.refused; totals = totals; past = t.past }) (counted t (some counts))
unfolding with_totals
answered_tally t counts e = ap (with_totals t) e
