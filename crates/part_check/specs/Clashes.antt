-- Refusal 5, a state at a time: what the check of a state notes and answers.
use Rattle.std.specs.Prelude.{◌≡◌, ◌&&◌, ◌||◌, ◌∷◌, ◌<◌}
use Rattle.basics.specs.Words.{Bool, true, false, not, cond, List, [], ℕ, get_or, eqb, ltb, all_of, member}
use Rattle.machine.specs.declared.Arc.{Arc}
use Rattle.machine.specs.declared.Pair.{Pair}
use Rattle.machine.specs.Symbols.{empty_symbol, is_pair}
use Rattle.machine.specs.SymbolSets.{without_empty, partners}
use Rattle.machine.specs.Machine.{takes_from, clash}
use Rattle.machine.specs.Part.{state_count, arcs_of}

-- every arc leaves a state of the machine
abbrev pub LeavesStates : List ℕ → Type 0
LeavesStates part = all_of (λ a. ltb a.from (state_count part)) (arcs_of part) ≡ true

-- two arcs do not both leave the state s and take one pair
abbrev pub clash_free_from : ℕ → Arc → Arc → Bool
clash_free_from s a b = not (eqb a.from s && clash a b)

-- the inputs of a set that make a pair of a kind with an output: 0 with 0 is none
abbrev pub pairs_with : ℕ → ℕ → ℕ → ℕ
pairs_with kind inputs y = partners kind (cond (eqb y empty_symbol) (without_empty inputs) inputs) y

-- a pair is one of those noted: for each output, the set of their inputs
abbrev pub noted : List ℕ → Pair → Bool
noted taken p = member (get_or taken p.output 0) p.input

-- some arc takes the pair from the state s
unfoldable pub taken_from : ℕ → List Arc → Pair → Bool
taken_from s [] p = false
taken_from s (a ∷ rest) p = takes_from a s p || taken_from s rest p

-- the pairs that some arc takes from the state s are noted, and no other
pub record Taken (s : ℕ) (arcs : List Arc) (taken : List ℕ) : Type 0 where
  pub pairs : (p : Pair) → p.output < 64 → noted taken p ≡ (is_pair p && taken_from s arcs p)

-- whether one of the pairs that pass was noted; and if not, they are noted too
pub record PairsNoted (f : Pair → Bool) (before after : List ℕ) (met : Bool) : Type 0 where
  pub found : met ≡ true → (p : Pair) × (p.input < 64) × (p.output < 64) × (is_pair p ≡ true) × (f p ≡ true) × (noted before p ≡ true)
  pub clean : met ≡ false → (p : Pair) → p.output < 64 → is_pair p ≡ true → f p ≡ true → noted before p ≡ false
  pub after_is : met ≡ false → (p : Pair) → p.output < 64 → noted after p ≡ (noted before p || (is_pair p && f p))
