-- A candidate's run through a machine that lacks an arc. Assumes nothing.
use Rattle.std.specs.Prelude.{◌≡◌, ◌∷◌, ◌≢◌, ◌<◌}
use Rattle.basics.proofs.Words.{refl, sym, ◌∙◌, ap, Bool, true, false, false≢true, List, [], Option, some, none, Option·none-ne-some, ℕ, zero, suc, arith, eqb, all_of, pairwise, without, clash as never, left, right, left_fails, right_fails}
use Rattle.std.proofs.lemmas.Bool.{not-true}
use Rattle.machine.specs.declared.Arc.{Arc}
use Rattle.machine.specs.declared.Pair.{Pair}
use Rattle.machine.specs.Symbols.{is_pair}
use Rattle.machine.specs.Machine.{Machine, takes, takes_from, step_among, step_of, ending_of, clash}
use Rattle.machine.specs.Part.{sound_arc, clash_free}
use Rattle.machine.specs.Accepted.{taken_within}
use Rattle.machine.specs.Steps.{clash_at, step_taken, step_passed}
use Rattle.candidate.specs.Candidates.{add_marks, marks_from}
use Rattle.trimming.specs.Travelling.{machine_without, arc_takes, travels_from}

-- ---- one step

-- without an arc that does not take the pair the step is the same
step_same : (arcs : List Arc) (j s : ℕ) (p : Pair) → arc_takes arcs j s p ≡ false → step_among (without j arcs) s p ≡ step_among arcs s p
unfolding without arc_takes
step_same [] j s p t = refl
step_same (a ∷ arcs) zero s p t = sym (step_passed a arcs s p t)
step_same (a ∷ arcs) (suc j) s p t = go (takes_from a s p) refl (step_same arcs j s p t)
  where
    go : (b : Bool) → takes_from a s p ≡ b → step_among (without j arcs) s p ≡ step_among arcs s p → step_among (a ∷ without j arcs) s p ≡ step_among (a ∷ arcs) s p
    go true e r = step_taken a (without j arcs) s p e ∙ sym (step_taken a arcs s p e)
    go false e r = step_passed a (without j arcs) s p e ∙ r ∙ sym (step_passed a arcs s p e)

-- the arcs of an accepted part on a card of S symbols
pub record Clashless (S Q : ℕ) (arcs : List Arc) : Type 0 where
  pub few : S < 64
  pub sound : all_of (sound_arc S Q) arcs ≡ true
  pub clashes : pairwise clash_free arcs ≡ true

clashless_rest : {S Q : ℕ} {a : Arc} {arcs : List Arc} → Clashless S Q (a ∷ arcs) → Clashless S Q arcs
unfolding all_of pairwise
clashless_rest {S} {Q} {a} {arcs} k = record {
  few = k.few;
  sound = right (sound_arc S Q a) (all_of (sound_arc S Q) arcs) k.sound;
  clashes = right (all_of (clash_free a) arcs) (pairwise clash_free arcs) k.clashes;
}

first_sound : {S Q : ℕ} {a : Arc} {arcs : List Arc} → Clashless S Q (a ∷ arcs) → sound_arc S Q a ≡ true
unfolding all_of
first_sound {S} {Q} {a} {arcs} k = left (sound_arc S Q a) (all_of (sound_arc S Q) arcs) k.sound

first_free : {S Q : ℕ} {a : Arc} {arcs : List Arc} → Clashless S Q (a ∷ arcs) → all_of (clash_free a) arcs ≡ true
unfolding pairwise
first_free {a = a} {arcs = arcs} k = left (all_of (clash_free a) arcs) (pairwise clash_free arcs) k.clashes

module _ (s : ℕ) (p : Pair) (is : is_pair p ≡ true) where
  -- where an arc takes the pair, no later one does
  no_other : (S Q : ℕ) (a : Arc) (arcs : List Arc) → S < 64 → sound_arc S Q a ≡ true → all_of (clash_free a) arcs ≡ true → takes_from a s p ≡ true → step_among arcs s p ≡ none
  unfolding all_of step_among
  no_other S Q a [] few sound free t = refl
  no_other S Q a (b ∷ arcs) few sound free t = go (takes_from b s p) refl (no_other S Q a arcs few sound (right (clash_free a b) (all_of (clash_free a) arcs) free) t)
    where
      go : (c : Bool) → takes_from b s p ≡ c → step_among arcs s p ≡ none → step_among (b ∷ arcs) s p ≡ none
      go true e r =
          let w = taken_within S Q a p sound (right (eqb a.from s) (takes a p) t) in
          absurd (never (clash_at a b s p (omega arith) (omega arith) is t e) (not-true (clash a b) (left (clash_free a b) (all_of (clash_free a) arcs) free)))
      go false e r = step_passed b arcs s p e ∙ r

  -- a step without an arc is one with it
  step_kept : {S Q : ℕ} (arcs : List Arc) (j : ℕ) → Clashless S Q arcs → (r : ℕ × ℕ) → step_among (without j arcs) s p ≡ some r → step_among arcs s p ≡ some r
  unfolding without
  step_kept [] j k r e = e
  step_kept {S} {Q} (a ∷ arcs) zero k r e = go (takes_from a s p) refl
    where
      go : (b : Bool) → takes_from a s p ≡ b → step_among (a ∷ arcs) s p ≡ some r
      go true t = absurd (Option·none-ne-some r (sym (no_other S Q a arcs k.few (first_sound k) (first_free k) t) ∙ e))
      go false t = step_passed a arcs s p t ∙ e
  step_kept (a ∷ arcs) (suc j) k r e = go (takes_from a s p) refl (step_kept arcs j (clashless_rest k) r)
    where
      go : (b : Bool) → takes_from a s p ≡ b → (step_among (without j arcs) s p ≡ some r → step_among arcs s p ≡ some r) → step_among (a ∷ arcs) s p ≡ some r
      go true t rec = step_taken a arcs s p t ∙ sym (step_taken a (without j arcs) s p t) ∙ e
      go false t rec = step_passed a arcs s p t ∙ rec (sym (step_passed a (without j arcs) s p t) ∙ e)

  -- where an arc takes the pair there is a step, and without that arc none
  takes_step : (arcs : List Arc) (j : ℕ) → arc_takes arcs j s p ≡ true → step_among arcs s p ≢ none
  unfolding arc_takes
  takes_step [] j t e = absurd (false≢true t)
  takes_step (a ∷ arcs) zero t e = Option·none-ne-some (a.to, a.marks) (sym e ∙ step_taken a arcs s p t)
  takes_step (a ∷ arcs) (suc j) t e = go (takes_from a s p) refl (takes_step arcs j t)
    where
      go : (b : Bool) → takes_from a s p ≡ b → step_among arcs s p ≢ none → ⊥
      go true q rec = Option·none-ne-some (a.to, a.marks) (sym e ∙ step_taken a arcs s p q)
      go false q rec = rec (sym (step_passed a arcs s p q) ∙ e)

  step_gone : {S Q : ℕ} (arcs : List Arc) (j : ℕ) → Clashless S Q arcs → arc_takes arcs j s p ≡ true → step_among (without j arcs) s p ≡ none
  unfolding without arc_takes
  step_gone [] j k t = absurd (false≢true t)
  step_gone {S} {Q} (a ∷ arcs) zero k t = no_other S Q a arcs k.few (first_sound k) (first_free k) t
  step_gone {S} {Q} (a ∷ arcs) (suc j) k t = go (takes_from a s p) refl (step_gone arcs j (clashless_rest k) t)
    where
      go : (b : Bool) → takes_from a s p ≡ b → step_among (without j arcs) s p ≡ none → step_among (a ∷ without j arcs) s p ≡ none
      go true q rec = absurd (takes_step arcs j t (no_other S Q a arcs k.few (first_sound k) (first_free k) q))
      go false q rec = step_passed a (without j arcs) s p q ∙ rec

-- ---- the whole run

-- marks by what the first step is
abbrev then : Machine → List Pair → Option (ℕ × ℕ) → Option ℕ
then m ps none = none
then m ps (some r) = add_marks r.1 (marks_from m r.0 ps)

marks_step : (m : Machine) (s : ℕ) (p : Pair) (ps : List Pair) → marks_from m s (p ∷ ps) ≡ then m ps (step_of m s p)
unfolding marks_from
marks_step m s p ps = go (step_of m s p) refl
  where
    go : (o : Option (ℕ × ℕ)) → step_of m s p ≡ o → marks_from m s (p ∷ ps) ≡ then m ps o
    go none e = rw (e, marks_from)
    go (some r) e = rw (e, marks_from)

marks_end : (m : Machine) (j s : ℕ) → marks_from (machine_without j m) s [] ≡ marks_from m s []
unfolding marks_from ending_of
marks_end m j s = refl

-- a candidate that does not travel the arc has the same marks
pub run_same : (m : Machine) (j s : ℕ) (c : List Pair) → travels_from m j s c ≡ false → marks_from (machine_without j m) s c ≡ marks_from m s c
unfolding travels_from
run_same m j s [] t = marks_end m j s
run_same m j s (p ∷ ps) t =
    marks_step (machine_without j m) s p ps
    ∙ ap (then (machine_without j m) ps) (step_same m.arcs j s p (left_fails (arc_takes m.arcs j s p) _ t))
    ∙ go (step_of m s p) refl (λ u. run_same m j u ps)
    ∙ sym (marks_step m s p ps)
  where
    go : (o : Option (ℕ × ℕ)) → step_of m s p ≡ o → ((u : ℕ) → travels_from m j u ps ≡ false → marks_from (machine_without j m) u ps ≡ marks_from m u ps) → then (machine_without j m) ps o ≡ then m ps o
    go none e rec = refl
    go (some r) e rec = ap (add_marks r.1) (rec r.0 (right_fails (arc_takes m.arcs j s p) _ (rw (e, travels_from) at t)))

-- a run through the machine that lacks the arc is a run through the machine
pub run_kept : {S Q : ℕ} (m : Machine) (j : ℕ) → Clashless S Q m.arcs → (s : ℕ) (c : List Pair) → all_of is_pair c ≡ true → (n : ℕ) → marks_from (machine_without j m) s c ≡ some n → marks_from m s c ≡ some n
unfolding all_of
run_kept m j k s [] is n e = sym (marks_end m j s) ∙ e
run_kept m j k s (p ∷ ps) is n e = go (step_of (machine_without j m) s p) refl (λ u. run_kept m j k u ps (right (is_pair p) (all_of is_pair ps) is))
  where
    after : (r : ℕ × ℕ) (o : Option ℕ) → marks_from (machine_without j m) r.0 ps ≡ o → add_marks r.1 o ≡ some n → ((u n : ℕ) → marks_from (machine_without j m) u ps ≡ some n → marks_from m u ps ≡ some n)
        → add_marks r.1 (marks_from m r.0 ps) ≡ some n
    after r none q z rec = absurd (Option·none-ne-some n z)
    after r (some k) q z rec = rw (rec r.0 k q) z

    go : (o : Option (ℕ × ℕ)) → step_of (machine_without j m) s p ≡ o → ((u n : ℕ) → marks_from (machine_without j m) u ps ≡ some n → marks_from m u ps ≡ some n) → marks_from m s (p ∷ ps) ≡ some n
    go none q rec = absurd (Option·none-ne-some n (sym (ap (then (machine_without j m) ps) q) ∙ sym (marks_step (machine_without j m) s p ps) ∙ e))
    go (some r) q rec =
        marks_step m s p ps ∙ ap (then m ps) (step_kept s p (left (is_pair p) (all_of is_pair ps) is) m.arcs j k r q)
        ∙ after r (marks_from (machine_without j m) r.0 ps) refl (sym (ap (then (machine_without j m) ps) q) ∙ sym (marks_step (machine_without j m) s p ps) ∙ e) rec

-- a candidate that travels the arc has no run through the machine that lacks it
pub run_gone : {S Q : ℕ} (m : Machine) (j : ℕ) → Clashless S Q m.arcs → (s : ℕ) (c : List Pair) → all_of is_pair c ≡ true → travels_from m j s c ≡ true → marks_from (machine_without j m) s c ≡ none
unfolding all_of travels_from
run_gone m j k s [] is t = absurd (false≢true t)
run_gone m j k s (p ∷ ps) is t = marks_step (machine_without j m) s p ps ∙ go (arc_takes m.arcs j s p) refl (λ u. run_gone m j k u ps (right (is_pair p) (all_of is_pair ps) is))
  where
    stuck : (o : Option (ℕ × ℕ)) → step_of m s p ≡ o → arc_takes m.arcs j s p ≡ false → ((u : ℕ) → travels_from m j u ps ≡ true → marks_from (machine_without j m) u ps ≡ none) → then (machine_without j m) ps o ≡ none
    stuck none e f rec = refl
    stuck (some r) e f rec = ap (add_marks r.1) (rec r.0 (rw (f, e, travels_from) at t))

    go : (b : Bool) → arc_takes m.arcs j s p ≡ b → ((u : ℕ) → travels_from m j u ps ≡ true → marks_from (machine_without j m) u ps ≡ none) → then (machine_without j m) ps (step_of (machine_without j m) s p) ≡ none
    go true q rec = ap (then (machine_without j m) ps) (step_gone s p (left (is_pair p) (all_of is_pair ps) is) m.arcs j k q)
    go false q rec = ap (then (machine_without j m) ps) (step_same m.arcs j s p q) ∙ stuck (step_of m s p) refl q rec
