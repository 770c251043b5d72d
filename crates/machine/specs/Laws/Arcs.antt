-- The arcs of a part: the tests of one arc, and how a loop over them goes on. Assumes nothing.
use Rattle.std.specs.Prelude.{◌≡◌, ◌∷◌, ◌+◌, ◌-◌, ◌*◌, ◌<◌, ◌≤◌}
use Rattle.basics.proofs.Words.{refl, sym, ap, ◌∙◌, Bool, true, false, List, [], Option, some, none, ℕ, zero, suc, arith, length, get_or, not-suc-le-zero, sub-one, all_of, eq-eqb, ne_eqb, all_none, all_next, all_fails}
use Rattle.machine.specs.declared.Arc.{Arc}
use Rattle.machine.specs.declared.Pair.{Pair}
use Rattle.machine.specs.Machine.{takes, takes_from, step_among}
use Rattle.machine.specs.Part.{arc_at, arcs_at}

-- the state that an arc leaves decides first
module _ (a : Arc) (s : ℕ) (p : Pair) where
  pub leaves : a.from ≡ s → takes_from a s p ≡ takes a p
  leaves e = rw (eq-eqb a.from s e)

  pub leaves_other : (a.from ≡ s → ⊥) → takes_from a s p ≡ false
  leaves_other e = rw (ne_eqb a.from s e)

-- the first of n arcs, and the others
arcs_cons : (l : List ℕ) (at n : ℕ) → 0 < n → arcs_at l at n ≡ arc_at l at ∷ arcs_at l (at + 20) (n - 1)
unfolding arcs_at
arcs_cons l at zero h = absurd (not-suc-le-zero h)
arcs_cons l at (suc n) h = rw sub-one

arcs_none : (l : List ℕ) (at n : ℕ) → n ≤ 0 → arcs_at l at n ≡ []
unfolding arcs_at
arcs_none l at zero h = refl
arcs_none l at (suc n) h = absurd (not-suc-le-zero h)

-- the arc i of n
pub arc_at_lem : (l : List ℕ) (at n i : ℕ) → i < n → (d : Arc) → get_or (arcs_at l at n) i d ≡ arc_at l (at + 20 * i)
unfolding arcs_at
arc_at_lem l at zero i h d = absurd (not-suc-le-zero h)
arc_at_lem l at (suc n) zero h d = ap (arc_at l) (omega arith)
arc_at_lem l at (suc n) (suc i) h d = arc_at_lem l (at + 20) n i (omega arith) d ∙ ap (arc_at l) (omega arith)

pub arcs_count : (l : List ℕ) (at n : ℕ) → length (arcs_at l at n) ≡ n
unfolding arcs_at
arcs_count l at zero = refl
arcs_count l at (suc n) = ap suc (arcs_count l (at + 20) n)

-- n arcs are left from a place, and the answer z is that of the arcs left
module _ (l : List ℕ) (at n : ℕ) where
  module _ (f : Arc → Bool) (z : Bool) where
    pub all_go_on : 0 < n → f (arc_at l at) ≡ true → all_of f (arcs_at l at n) ≡ z → all_of f (arcs_at l (at + 20) (n - 1)) ≡ z
    all_go_on h t i = all_next f (arcs_cons l at n h) t ∙ i

    pub all_stop : 0 < n → f (arc_at l at) ≡ false → all_of f (arcs_at l at n) ≡ z → false ≡ z
    all_stop h t i = sym (all_fails f (arcs_cons l at n h) t) ∙ i

    pub all_end : n ≤ 0 → all_of f (arcs_at l at n) ≡ z → true ≡ z
    all_end h i = sym (all_none f (arcs_none l at n h)) ∙ i

  module _ (s : ℕ) (p : Pair) (z : Option (ℕ × ℕ)) where
    pub step_go_on : 0 < n → takes_from (arc_at l at) s p ≡ false → step_among (arcs_at l at n) s p ≡ z → step_among (arcs_at l (at + 20) (n - 1)) s p ≡ z
    unfolding step_among
    step_go_on h t i = let e = arcs_cons l at n h in rw (e, step_among, t) at i

    pub step_stop : 0 < n → takes_from (arc_at l at) s p ≡ true → step_among (arcs_at l at n) s p ≡ z → some ((arc_at l at).to, (arc_at l at).marks) ≡ z
    unfolding step_among
    step_stop h t i = let e = arcs_cons l at n h in rw (e, step_among, t) at i

    pub step_end : n ≤ 0 → step_among (arcs_at l at n) s p ≡ z → none ≡ z
    unfolding step_among
    step_end h i = let e = arcs_none l at n h in rw (e, step_among) at i
