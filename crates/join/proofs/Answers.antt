-- The checks of joining and its answer, by their numbers. Assumes nothing.
use Rattle.std.specs.Prelude.{◌≡◌, ◌&&◌, ◌||◌, ◌∷◌, ◌⊎◌, ◌<◌, ◌≤◌}
use Rattle.basics.proofs.Words.{refl, ap, ap₂, sym, ◌∙◌, Bool, true, false, not, List, [], inl, inr, ℕ, zero, suc, min, max, arith, length, eqb, ltb, leb, lit<, eqb-false, ne_eqb, lt-ltb, le-ltb, le-leb, leb-true, leb-false, either, left_fails, right_fails}
use Rattle.refusals.specs.Refusals.{refuse, first_of}
use Rattle.refusals.proofs.Refusals.{passed, first_up, first_on, last_one}
use Rattle.card.specs.declared.Packed.{Packed}
use Rattle.layout.specs.Layout.{part_of}
use Rattle.machine.specs.Machine.{Machine, no_machine}
use Rattle.machine.specs.Part.{state_count, arcs_of, machine_of, shaped}
use Rattle.machine.specs.Accepted.{accepted as part_accepted, state_count_lem}
use Rattle.card.specs.Layout.{machine_count, symbol_count}
use Rattle.card.specs.Accepted.{accepted}
use Rattle.card.specs.Laws.Machines.{machine_at_lem}
use Rattle.card.specs.Card.{machines_of, card_refusal}
use Rattle.join.specs.JoinedMachine.{machine_at, joined_arcs, joined_machine, markless}
use Rattle.join.specs.JoinedCard.{fits_part, joinable, join_fits, joining, machines_refusal, joining_refusal, joining_answer, joining_target}
use Rattle.join.specs.Laws.Joinable.{TwoMachines, joinable_facts}
use Rattle.join.specs.Writing.{placed}

-- ---- refusal 27

pub not_joinable : (card : List ℕ) (K a b : ℕ) → K ≡ machine_count card → (eqb a b || leb K a || leb K b) ≡ true → false ≡ joinable card a b
unfolding joinable
not_joinable card K a b e t = sym (go (either (eqb a b || leb K a) (leb K b) t))
  where
    marks : Bool
    marks = markless (machine_at (machines_of card) a) || markless (machine_at (machines_of card) b)

    past : (n : ℕ) → leb K n ≡ true → ltb n (machine_count card) ≡ false
    past n t = le-ltb n (machine_count card) (omega (arith, e, leb-true K n t))

    second_past : (x y : Bool) → (x && y && false && marks) ≡ false
    second_past true true = refl
    second_past true false = refl
    second_past false y = refl

    first_past : (x y : Bool) → (x && false && y && marks) ≡ false
    first_past true y = refl
    first_past false y = refl

    go : ((eqb a b || leb K a) ≡ true) ⊎ (leb K b ≡ true) → (not (eqb a b) && ltb a (machine_count card) && ltb b (machine_count card) && marks) ≡ false
    go (inr t) = ap (λ x. not (eqb a b) && ltb a (machine_count card) && x && marks) (past b t) ∙ second_past (not (eqb a b)) (ltb a (machine_count card))
    go (inl t) = again (either (eqb a b) (leb K a) t)
      where
        again : (eqb a b ≡ true) ⊎ (leb K a ≡ true) → (not (eqb a b) && ltb a (machine_count card) && ltb b (machine_count card) && marks) ≡ false
        again (inl t) = ap (λ x. not x && ltb a (machine_count card) && ltb b (machine_count card) && marks) t
        again (inr t) = ap (λ x. not (eqb a b) && x && ltb b (machine_count card) && marks) (past a t) ∙ first_past (not (eqb a b)) (ltb b (machine_count card))

pub two_machines : (K a b : ℕ) → (eqb a b || leb K a || leb K b) ≡ false → TwoMachines K a b
two_machines K a b t =
    let ab = left_fails (eqb a b || leb K a) (leb K b) t in
    record {
      apart = eqb-false a b (left_fails (eqb a b) (leb K a) ab);
      first = leb-false K a (right_fails (eqb a b) (leb K a) ab);
      second = leb-false K b (right_fails (eqb a b || leb K a) (leb K b) t);
    }

pub marks_decide : (card : List ℕ) (a b : ℕ) → TwoMachines (machine_count card) a b → (markless (machine_at (machines_of card) a) || markless (machine_at (machines_of card) b)) ≡ joinable card a b
unfolding joinable
marks_decide card a b h =
    let marks = markless (machine_at (machines_of card) a) || markless (machine_at (machines_of card) b) in
    sym (ap (λ x. not x && ltb a (machine_count card) && ltb b (machine_count card) && marks) (ne_eqb a b h.apart)
    ∙ ap₂ (λ x y. true && x && y && marks) (lt-ltb a (machine_count card) h.first) (lt-ltb b (machine_count card) h.second))

-- ---- parts of an accepted card

pub shape_in : (card : List ℕ) → card_refusal card ≡ 0 → (k : ℕ) → k < machine_count card → shaped (part_of card k) ≡ true
shape_in card ok k h = (part_accepted (symbol_count card) (part_of card k) ((accepted card ok).part k h)).shape

pub joined_arcs_lem : (p q : List ℕ) → shaped q ≡ true → length (joined_machine (machine_of p) (machine_of q)).arcs ≡ length (joined_arcs (state_count q) (arcs_of p) (arcs_of q))
unfolding joined_machine machine_of
joined_arcs_lem p q t = ap (λ (n : ℕ). length (joined_arcs n (arcs_of p) (arcs_of q))) (state_count_lem q t)

-- refusal 27 was not met
pub two_of : (card : List ℕ) (a b : ℕ) → refuse 27 (joinable card a b) ≡ 0 → TwoMachines (machine_count card) a b
two_of card a b e = (joinable_facts card a b (passed 27 (joinable card a b) (lit< tt) e)).0

-- the joined machine by the parts
pub fits_as : (card : List ℕ) (a b : ℕ) → TwoMachines (machine_count card) a b → (i j : ℕ) → i ≡ min a b → j ≡ max a b
    → fits_part (joined_machine (machine_of (part_of card i)) (machine_of (part_of card j))) ≡ join_fits card a b
unfolding join_fits
fits_as card a b h i j ei ej =
    let hi : i < machine_count card = omega (arith, ei, h) in
    let hj : j < machine_count card = omega (arith, ej, h) in
    ap₂ (λ (x y : Machine). fits_part (joined_machine x y)) (sym (machine_at_lem card i hi no_machine) ∙ ap (machine_at (machines_of card)) ei) (sym (machine_at_lem card j hj no_machine) ∙ ap (machine_at (machines_of card)) ej)

-- ---- the call

-- the numbers as they were handed in
pub as_called : (card target : List ℕ) (a b first second : ℕ) (r : Packed) (after : List ℕ) → a ≡ first → b ≡ second
    → (r ≡ joining_answer card a b (length target)) × (after ≡ joining_target card a b target)
    → (r ≡ joining_answer card first second (length target)) × (after ≡ joining_target card first second target)
as_called card target a b first second r after ea eb h =
    (h.0 ∙ ap₂ (λ (x y : ℕ). joining_answer card x y (length target)) ea eb, h.1 ∙ ap₂ (λ (x y : ℕ). joining_target card x y target) ea eb)

module _ (card : List ℕ) (a b : ℕ) (target : List ℕ) where
  pub refused_by : (n : ℕ) → joining_refusal card a b (length target) ≡ n → 0 < n → (record { number = n; length = 0 } ≡ joining_answer card a b (length target)) × (target ≡ joining_target card a b target)
  unfolding joining_answer joining_target
  refused_by zero e h = absurd (omega (arith, h))
  refused_by (suc n) e h = (rw e, rw e)

  -- refused by 1 to 6, 27 or 28
  pub refused_early : (n : ℕ) → machines_refusal card a b ≡ n → 0 < n → (record { number = n; length = 0 } ≡ joining_answer card a b (length target)) × (target ≡ joining_target card a b target)
  unfolding joining_refusal
  refused_early n e h = refused_by n (first_up (machines_refusal card a b) (refuse 18 (leb (length (joining card a b)) (length target)) ∷ []) (omega (arith, e, h)) ∙ e) h

  module _ (ok : machines_refusal card a b ≡ 0) where
    left_over : joining_refusal card a b (length target) ≡ first_of (refuse 18 (leb (length (joining card a b)) (length target)) ∷ [])
    unfolding joining_refusal
    left_over = first_on (machines_refusal card a b) (refuse 18 (leb (length (joining card a b)) (length target)) ∷ []) ok

    -- 18 decides
    pub target_refusal : joining_refusal card a b (length target) ≡ refuse 18 (leb (length (joining card a b)) (length target))
    target_refusal = left_over ∙ last_one (refuse 18 (leb (length (joining card a b)) (length target)))

    -- accepted
    pub long_enough : length (joining card a b) ≤ length target → (after : List ℕ) → after ≡ placed 0 (joining card a b) target
        → (record { number = 0; length = length (joining card a b) } ≡ joining_answer card a b (length target)) × (after ≡ joining_target card a b target)
    unfolding joining_answer joining_target placed
    long_enough h after e = let z = left_over ∙ ap (λ t. first_of (refuse 18 t ∷ [])) (le-leb (length (joining card a b)) (length target) h) in (rw z, rw z e)
