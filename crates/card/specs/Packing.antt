-- Packing machine parts into a card.
use Rattle.std.specs.Prelude.{Result, Ok, Err, ◌∷◌, ◌++◌}
use Rattle.basics.specs.Words.{List, [], ℕ, length, drop, eqb, leb}
use Rattle.refusals.specs.declared.Refusal.{Refusal}
use Rattle.refusals.specs.Refusals.{number_of, refuse, first_of, unless_refused}
use Rattle.card.specs.declared.Packed.{Packed}
use Rattle.card.specs.Layout.{sound_counts}
use Rattle.card.specs.Card.{machines_refusal}
pub use Rattle.layout.specs.Packing.{table}
unfoldable pub use Rattle.layout.specs.Packing.{total, split, places, packed}

-- 0 where the input is accepted for a target of a length, else the first refusal: 1, 17, 3 to 6, 18
unfoldable pub packing_refusal : ℕ → List ℕ → List ℕ → ℕ → ℕ
packing_refusal S lengths joined room =
    first_of
    (refuse 1 (sound_counts (length lengths) S)
    ∷ refuse 17 (eqb (total lengths) (length joined))
    ∷ machines_refusal S (split lengths joined)
    ∷ refuse 18 (leb (length (packed S lengths joined)) room)
    ∷ [])

abbrev pub packed_of : Result ℕ Refusal → Packed
packed_of (Ok n) = record { number = 0; length = n }
packed_of (Err r) = record { number = number_of r; length = 0 }

-- what packing answers, and the target at exit: the card in front, its other bytes as they were
unfoldable pub packing : ℕ → List ℕ → List ℕ → List ℕ → Packed
packing S lengths joined target =
    unless_refused (packing_refusal S lengths joined (length target))
    (record { number = 0; length = length (packed S lengths joined) })
    (λ n. record { number = n; length = 0 })

unfoldable pub packed_target : ℕ → List ℕ → List ℕ → List ℕ → List ℕ
packed_target S lengths joined target =
    unless_refused (packing_refusal S lengths joined (length target))
    (packed S lengths joined ++ drop (length (packed S lengths joined)) target)
    (λ n. target)
