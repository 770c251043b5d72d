-- A machine without marks counts nothing. Assumes nothing.
use Rattle.std.specs.Prelude.{◌≡◌, ◌∷◌}
use Rattle.basics.proofs.Words.{refl, sym, ap, ◌∙◌, Bool, true, false, List, [], Option, some, none, ℕ, zero, suc, arith, get_or, eqb, all_of, left, right}
use Rattle.std.proofs.Common.{eqb-true}
use Rattle.machine.specs.declared.Arc.{Arc}
use Rattle.machine.specs.declared.Pair.{Pair}
use Rattle.machine.specs.Machine.{Machine, takes_from, step_among, step_of, ending_of}
use Rattle.machine.specs.Steps.{step_taken, step_passed}
use Rattle.candidate.specs.Candidates.{add_marks, marks_from, count_of}
use Rattle.product.specs.Laws.JointStep.{marks_next, marks_stuck}
use Rattle.join.specs.JoinedMachine.{ends_free, markless}

no_marks : (arcs : List Arc) → all_of (λ a. eqb a.marks 0) arcs ≡ true → (s : ℕ) (p : Pair) (r : ℕ × ℕ) → step_among arcs s p ≡ some r → r.1 ≡ 0
unfolding step_among all_of
no_marks [] h s p r e = absurd (let z : ◌≡◌ {A = ℕ} 0 1 = cc in omega arith)
no_marks (x ∷ xs) h s p r e = go (takes_from x s p) refl (no_marks xs (right (eqb x.marks 0) (all_of (λ a. eqb a.marks 0) xs) h) s p r)
  where
    go : (c : Bool) → takes_from x s p ≡ c → (step_among xs s p ≡ some r → r.1 ≡ 0) → r.1 ≡ 0
    go true c rec =
        let q : some (x.to, x.marks) ≡ some r = sym (step_taken x xs s p c) ∙ e in
        let z : r.1 ≡ x.marks = cc in
        z ∙ eqb-true x.marks 0 (left (eqb x.marks 0) (all_of (λ a. eqb a.marks 0) xs) h)
    go false c rec = rec (sym (step_passed x xs s p c) ∙ e)

no_ending_marks : (m : Machine) → markless m ≡ true → (s : ℕ) → count_of (ending_of m s) ≡ 0
unfolding ending_of markless all_of
no_ending_marks m h s = go (get_or m.endings s none) (at m.endings s (right (all_of (λ a. eqb a.marks 0) m.arcs) (all_of ends_free m.endings) h))
  where
    at : (os : List (Option ℕ)) (s : ℕ) → all_of ends_free os ≡ true → ends_free (get_or os s none) ≡ true
    at [] s t = refl
    at (o ∷ os) zero t = left (ends_free o) (all_of ends_free os) t
    at (o ∷ os) (suc s) t = at os s (right (ends_free o) (all_of ends_free os) t)

    go : (o : Option ℕ) → ends_free o ≡ true → count_of o ≡ 0
    go none t = refl
    go (some m) t = eqb-true m 0 t

pub counts_nothing : (m : Machine) → markless m ≡ true → (s : ℕ) (c : List Pair) → count_of (marks_from m s c) ≡ 0
unfolding marks_from markless
counts_nothing m h s [] = no_ending_marks m h s
counts_nothing m h s (p ∷ ps) = go (step_of m s p) refl (λ t. counts_nothing m h t ps)
  where
    add : (n : ℕ) (o : Option ℕ) → n ≡ 0 → count_of o ≡ 0 → count_of (add_marks n o) ≡ 0
    add n none e f = refl
    add n (some k) e f = omega (arith, e, f)

    go : (o : Option (ℕ × ℕ)) → step_of m s p ≡ o → ((t : ℕ) → count_of (marks_from m t ps) ≡ 0) → count_of (marks_from m s (p ∷ ps)) ≡ 0
    go none e rec = ap count_of (marks_stuck m s p ps e)
    go (some r) e rec = ap count_of (marks_next m s p ps r e) ∙ add r.1 (marks_from m r.0 ps) (no_marks m.arcs (left (all_of (λ a. eqb a.marks 0) m.arcs) (all_of ends_free m.endings) h) s p r e) (rec r.0)
