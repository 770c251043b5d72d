-- Ranking conditions: where one of them comes from, and when a ranking fits it.
use Rattle.std.specs.Prelude.{Result, Ok, Err, ◌||◌, ◌∷◌}
use Rattle.basics.specs.Words.{Bool, true, false, List, [], Option, some, none, ℕ, get_or, eqb, ltb, member, set_of}
use Rattle.refusals.specs.Refusals.{refuse, unless_refused, number_of}
use Rattle.ranking.specs.declared.Condition.{Condition}
use Rattle.refusals.specs.declared.Refusal.{Refusal}
use Rattle.ranking.specs.declared.Profile.{Profile}
use Rattle.ranking.specs.Rankings.{is_machine_count}

-- the set of the machines, of K, where a has fewer than b
abbrev pub fewer_in : ℕ → List ℕ → List ℕ → ℕ
fewer_in K a b = set_of (λ i. ltb (get_or a i 0) (get_or b i 0)) K

-- W, the machines where a has fewer; L, where a has more
abbrev pub condition_of : ℕ → List ℕ → List ℕ → Condition
condition_of K a b = record { fewer = fewer_in K a b; more = fewer_in K b a }

-- the highest ranked machine in either set
unfoldable pub highest : List ℕ → Condition → Option ℕ
highest [] c = none
highest (m ∷ r) c = elim (member c.fewer m || member c.more m) [ true ↦ some m | false ↦ highest r c ]

abbrev pub in_fewer : Condition → Option ℕ → Bool
in_fewer c none = false
in_fewer c (some m) = member c.fewer m

-- L is empty, or the highest machine in either is in W
unfoldable pub fits : List ℕ → Condition → Bool
fits r c = eqb c.more 0 || in_fewer c (highest r c)

-- what deriving a condition answers, in the paper's terms: a refusal carries its number, and W and L are 0
pub record DerivedCondition : Type 0 where
  pub number : ℕ
  pub condition : Condition

abbrev pub refused_condition : ℕ → DerivedCondition
refused_condition n = record { number = n; condition = record { fewer = 0; more = 0 } }

abbrev pub derived : Result Condition Refusal → DerivedCondition
derived (Ok c) = record { number = 0; condition = c }
derived (Err r) = refused_condition (number_of r)

abbrev pub derived_from : ℕ → Profile → Profile → DerivedCondition
derived_from K a b =
    unless_refused (refuse 1 (is_machine_count K)) (record { number = 0; condition = condition_of K a.counts b.counts }) refused_condition
