-- The candidates for the empty word have only insertions, and the candidate of no pairs is one of them exactly if every start state is final.
-- Assumes nothing.
use Rattle.std.specs.Prelude.{◌≡◌, ◌∷◌, ◌↔◌}
use Rattle.basics.proofs.Words.{refl, sym, ap, ◌∙◌, Bool, true, false, List, [], ℕ, arith, eqb, all_of, both, left, right, clash}
use Rattle.machine.specs.declared.Pair.{Pair}
use Rattle.machine.specs.Symbols.{empty_symbol}
use Rattle.machine.specs.Machine.{Machine, start_state, ending_of}
use Rattle.candidate.specs.Candidates.{spelled, marks_from, is_some, is_complete, IsCandidate}

-- a pair inserts if its in is the empty symbol
abbrev pub inserts : Pair → Bool
inserts p = eqb p.input empty_symbol

-- the start state is final
abbrev pub start_is_final : Machine → Bool
start_is_final m = is_some (ending_of m start_state)

-- a list of pairs spells the empty word exactly if every pair inserts
pub spells_nothing : (c : List Pair) → (spelled c ≡ []) ↔ (all_of inserts c ≡ true)
unfolding spelled all_of
spells_nothing [] = (λ e. refl, λ t. refl)
spells_nothing (p ∷ ps) = go (inserts p) refl (spells_nothing ps)
  where
    spells : Bool → List ℕ
    spells b = elim b [ true ↦ spelled ps | false ↦ p.input ∷ spelled ps ]

    go : (b : Bool) → inserts p ≡ b → (spelled ps ≡ []) ↔ (all_of inserts ps ≡ true) → (spells (inserts p) ≡ []) ↔ (all_of inserts (p ∷ ps) ≡ true)
    go true e rest = (λ s. both e (rest.0 (ap spells (sym e) ∙ s)), λ t. ap spells e ∙ rest.1 (right (inserts p) (all_of inserts ps) t))
    go false e rest = (λ s. absurd (symbol (ap spells (sym e) ∙ s)), λ t. absurd (clash (left (inserts p) (all_of inserts ps) t) e))
      where
        symbol : p.input ∷ spelled ps ≡ [] → ⊥
        symbol s = let z : ◌≡◌ {A = ℕ} 0 1 = cc in omega arith

-- so its candidates have only insertions
pub only_insertions : (ms : List Machine) (c : List Pair) → IsCandidate ms [] c → all_of inserts c ≡ true
only_insertions ms c h = (spells_nothing c).0 h.spells

pub no_pairs : (ms : List Machine) → IsCandidate ms [] [] ↔ (all_of start_is_final ms ≡ true)
unfolding spelled all_of is_complete marks_from
no_pairs ms = (λ h. h.complete, λ t. record { pairs = refl; spells = refl; complete = t })
