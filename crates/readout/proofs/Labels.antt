-- The checks 10 and 12 by the label of the start. Assumes nothing.
use Rattle.std.specs.Prelude.{◌≡◌, ◌*◌, ◌<◌, ◌≤◌}
use Rattle.basics.proofs.Words.{refl, sym, ◌∙◌, ap, subst, List, Option, some, none, ℕ, arith, leb, lit<, leb-true}
use Rattle.refusals.specs.Refusals.{refuse}
use Rattle.refusals.proofs.Refusals.{passed}
use Rattle.candidate.specs.Candidates.{is_some}
use Rattle.paths.specs.Ranked.{Ranked, letter_count}
use Rattle.product.specs.ProductGraph.{card_start}
use Rattle.tables.specs.Work.{label_of, cost_at}
use Rattle.tables.proofs.Work.{holds}
use Rattle.readout.specs.Searching.{label_refusal, StartFits}

-- 10 is the first refusal
pub not_there : (o : Option (Ranked 6)) (room n : ℕ) → n ≡ refuse 10 (is_some o) → 0 < n → n ≡ label_refusal o room
not_there none room n e h = e
not_there (some c) room n e h = absurd (omega arith)

-- where 10 is not met there is a label
pub is_there : (xs : List ℕ) (u : ℕ) → refuse 10 (is_some (label_of xs u)) ≡ 0 → label_of xs u ≡ some (cost_at xs u)
is_there xs u z = go (label_of xs u) refl z
  where
    go : (o : Option (Ranked 6)) → label_of xs u ≡ o → refuse 10 (is_some o) ≡ 0 → label_of xs u ≡ some (cost_at xs u)
    go none l z = absurd (omega arith)
    go (some c) l z = l ∙ ap {B = Option (Ranked 6)} some (sym (holds xs u c l).cost)

-- where none of them is met the walk can start
pub start_fits : (card xs : List ℕ) (room : ℕ) → label_refusal (label_of xs (card_start card)) room ≡ 0 → StartFits card xs room
start_fits card xs room z = go (label_of xs (card_start card)) refl z
  where
    go : (o : Option (Ranked 6)) → label_of xs (card_start card) ≡ o → label_refusal o room ≡ 0 → StartFits card xs room
    go none l z = absurd (omega arith)
    go (some c) l z =
        let e : cost_at xs (card_start card) ≡ c = (holds xs (card_start card) c l).cost in
        let h : 2 * letter_count 6 c ≤ room = leb-true (2 * letter_count 6 c) room (passed 12 (leb (2 * letter_count 6 c) room) (lit< tt) z) in
        record { label_is = l ∙ ap {B = Option (Ranked 6)} some (sym e); fits = subst (λ (d : Ranked 6). 2 * letter_count 6 d ≤ room) (sym e) h }
