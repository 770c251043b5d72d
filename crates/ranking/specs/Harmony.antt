-- Harmonic comparison of two profiles, by their counts in card order.
use Rattle.std.specs.Prelude.{Result, Ok, Err, ◌∷◌}
use Rattle.basics.specs.Words.{Bool, true, false, List, [], Option, some, none, ℕ, get_or, ltb}
use Rattle.refusals.specs.Refusals.{refuse, first_of, unless_refused, number_of}
use Rattle.refusals.specs.declared.Refusal.{Refusal}
use Rattle.ranking.specs.declared.Order.{Order}
use Rattle.ranking.specs.declared.Order.TheVariants.{Better, Equal, Worse}
use Rattle.ranking.specs.declared.Profile.{Profile}
use Rattle.ranking.specs.Rankings.{is_machine_count, is_ranking}

-- down the ranking: the smaller count at the highest ranked machine where the two differ, and that machine's number
unfoldable pub harmony : List ℕ → List ℕ → List ℕ → Order
harmony [] v w = Equal
harmony (m ∷ r) v w =
    elim (ltb (get_or v m 0) (get_or w m 0)) [ true ↦ Better m | false ↦ elim (ltb (get_or w m 0) (get_or v m 0)) [ true ↦ Worse m | false ↦ harmony r v w ] ]

abbrev pub is_better : Order → Bool
is_better (Better m) = true
is_better Equal = false
is_better (Worse m) = false

abbrev pub is_worse : Order → Bool
is_worse (Better m) = false
is_worse Equal = false
is_worse (Worse m) = true

-- v is better than w under the ranking
abbrev pub better : List ℕ → List ℕ → List ℕ → Bool
better r v w = is_better (harmony r v w)

-- v is worse than w under the ranking
abbrev pub worse : List ℕ → List ℕ → List ℕ → Bool
worse r v w = is_worse (harmony r v w)

-- the better of two: the first where it is better, else the second
abbrev pub first_if : Bool → List ℕ → List ℕ → List ℕ
first_if true v w = v
first_if false v w = w

unfoldable pub better_of : List ℕ → List ℕ → List ℕ → List ℕ
better_of r v w = first_if (better r v w) v w

-- what comparing answers, in the paper's terms: a refusal carries its number alone
pub record Compared : Type 0 where
  pub number : ℕ
  pub order : Option Order

abbrev pub refused_comparison : ℕ → Compared
refused_comparison n = record { number = n; order = none }

abbrev pub compared : Result Order Refusal → Compared
compared (Ok o) = record { number = 0; order = some o }
compared (Err r) = refused_comparison (number_of r)

abbrev pub comparing : ℕ → List ℕ → Profile → Profile → Compared
comparing K r v w =
    unless_refused (first_of (refuse 1 (is_machine_count K) ∷ refuse 7 (is_ranking K r) ∷ []))
    (record { number = 0; order = some (harmony r v.counts w.counts) })
    refused_comparison
