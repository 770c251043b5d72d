-- Steps and endings of an accepted part: at most one arc of a state takes a pair, and the bounds of what is handed back. Assumes nothing.
use Rattle.std.specs.Prelude.{◌≡◌, ◌∷◌, ◌<◌, ◌≤◌}
use Rattle.basics.proofs.Words.{refl, sym, ap, ◌∙◌, Bool, true, false, List, [], map, some, none, Option·none-ne-some, ℕ, zero, suc, arith, length, get_or, length-map, List·getD-map, List·getD-eq-default, eqb, ltb, leb, clash as never, both, left, right, all_at, pairwise_at}
use Rattle.std.proofs.Common.{ltb-true, ltb-false, leb-true, eqb-true, eq-eqb}
use Rattle.std.proofs.lemmas.Bool.{not-true}
use Rattle.machine.specs.declared.Arc.{Arc}
use Rattle.machine.specs.declared.Pair.{Pair}
use Rattle.machine.specs.Symbols.{is_pair}
use Rattle.machine.specs.Machine.{takes, takes_from, step_among, step_of, ending_of, clash}
use Rattle.machine.specs.Part.{state_count, state_bytes, ending_byte, arcs_of, machine_of, sound_arc, clash_free, part_refusal}
use Rattle.machine.specs.Accepted.{state_count_lem, accepted, sound_facts, taken_within}
use Rattle.machine.specs.CommonPair.{take_one}

-- two arcs that take a pair from a state clash
pub clash_at : (a b : Arc) (s : ℕ) (p : Pair) → p.input < 64 → p.output < 64 → is_pair p ≡ true → takes_from a s p ≡ true → takes_from b s p ≡ true → clash a b ≡ true
unfolding clash
clash_at a b s p hx hy q ta tb =
    let ea = eqb-true a.from s (left (eqb a.from s) (takes a p) ta) in
    let eb = eqb-true b.from s (left (eqb b.from s) (takes b p) tb) in
    both (eq-eqb a.from b.from (ea ∙ sym eb)) (take_one a b p hx hy q (right (eqb a.from s) (takes a p) ta) (right (eqb b.from s) (takes b p) tb))

-- the first of the arcs that takes the pair
pub step_taken : (a : Arc) (arcs : List Arc) (s : ℕ) (p : Pair) → takes_from a s p ≡ true → step_among (a ∷ arcs) s p ≡ some (a.to, a.marks)
unfolding step_among
step_taken a arcs s p t = rw (t, step_among)

pub step_passed : (a : Arc) (arcs : List Arc) (s : ℕ) (p : Pair) → takes_from a s p ≡ false → step_among (a ∷ arcs) s p ≡ step_among arcs s p
unfolding step_among
step_passed a arcs s p t = rw (t, step_among)

-- where one place alone has an arc that takes the pair from the state, the step is by that arc
step_at_lem : (d : Arc) (s : ℕ) (p : Pair) (arcs : List Arc) (i : ℕ) → i < length arcs → takes_from (get_or arcs i d) s p ≡ true
    → ((j : ℕ) → j < length arcs → takes_from (get_or arcs j d) s p ≡ true → j ≡ i) → step_among arcs s p ≡ some ((get_or arcs i d).to, (get_or arcs i d).marks)
unfolding step_among
step_at_lem d s p [] i h t u = absurd (omega arith)
step_at_lem d s p (a ∷ rest) zero h t u = step_taken a rest s p t
step_at_lem d s p (a ∷ rest) (suc i) h t u = go (takes_from a s p) refl (step_at_lem d s p rest i (omega arith) t (λ j q e. let z = u (suc j) (omega arith) e in omega arith))
  where
    go : (b : Bool) → takes_from a s p ≡ b → step_among rest s p ≡ some ((get_or rest i d).to, (get_or rest i d).marks) → step_among (a ∷ rest) s p ≡ some ((get_or rest i d).to, (get_or rest i d).marks)
    go true e r = let z = u 0 (omega arith) e in absurd (omega arith)
    go false e r = step_passed a rest s p e ∙ r

-- a step is by an arc that takes the pair from the state
step_by : (d : Arc) (s : ℕ) (p : Pair) (arcs : List Arc) (r : ℕ × ℕ) → step_among arcs s p ≡ some r
    → (i : ℕ) × (i < length arcs) × (takes_from (get_or arcs i d) s p ≡ true) × (r ≡ ((get_or arcs i d).to, (get_or arcs i d).marks))
unfolding step_among
step_by d s p [] r e = let z : ◌≡◌ {A = ℕ} 0 1 = cc in absurd (omega arith)
step_by d s p (a ∷ rest) r e = go (takes_from a s p) refl (step_by d s p rest r)
  where
    go : (b : Bool) → takes_from a s p ≡ b
        → (step_among rest s p ≡ some r → (i : ℕ) × (i < length rest) × (takes_from (get_or rest i d) s p ≡ true) × (r ≡ ((get_or rest i d).to, (get_or rest i d).marks)))
        → (i : ℕ) × (i < suc (length rest)) × (takes_from (get_or (a ∷ rest) i d) s p ≡ true) × (r ≡ ((get_or (a ∷ rest) i d).to, (get_or (a ∷ rest) i d).marks))
    go true t q = let w : some (a.to, a.marks) ≡ some r = rw (t, step_among) at e in (0, omega arith, t, cc)
    go false t q = let w = q (rw (t, step_among) at e) in (suc w.0, omega arith, w.2, w.3)

-- a step of an accepted part on a pair, to a state with marks
pub record StepBounds (S : ℕ) (part : List ℕ) (p : Pair) (r : ℕ × ℕ) : Type 0 where
  pub state : r.0 < state_count part
  pub marks : r.1 ≤ 15
  pub input : p.input ≤ S
  pub output : p.output ≤ S

module _ (S : ℕ) (part : List ℕ) (ok : part_refusal S part ≡ 0) where
  arc_sound : (d : Arc) (i : ℕ) → i < length (arcs_of part) → sound_arc S (state_count part) (get_or (arcs_of part) i d) ≡ true
  arc_sound d i h = all_at (sound_arc S (state_count part)) (arcs_of part) d (accepted S part ok).arcs i h

  -- at most one arc of a state takes a pair
  pub one_arc : S < 64 → (s : ℕ) (p : Pair) → is_pair p ≡ true → (d : Arc) (i j : ℕ) → i < length (arcs_of part) → j < length (arcs_of part)
      → takes_from (get_or (arcs_of part) i d) s p ≡ true → takes_from (get_or (arcs_of part) j d) s p ≡ true → i ≡ j
  one_arc hS s p q d i j hi hj ti tj = go (ltb i j) refl (ltb j i) refl
    where
      before : (i j : ℕ) → i < j → j < length (arcs_of part) → takes_from (get_or (arcs_of part) i d) s p ≡ true → takes_from (get_or (arcs_of part) j d) s p ≡ true → ⊥
      before i j h hj ti tj =
          let a = get_or (arcs_of part) i d in
          let b = get_or (arcs_of part) j d in
          let w = taken_within S (state_count part) b p (arc_sound d j hj) (right (eqb b.from s) (takes b p) tj) in
          never
          (clash_at a b s p (omega arith) (omega arith) q ti tj)
          (not-true (clash a b) (pairwise_at clash_free (arcs_of part) d (accepted S part ok).clashes i j h hj))

      go : (b : Bool) → ltb i j ≡ b → (e : Bool) → ltb j i ≡ e → i ≡ j
      go true f e g = absurd (before i j (ltb-true i j f) hj ti tj)
      go false f true g = absurd (before j i (ltb-true j i g) hi tj ti)
      go false f false g = omega (arith, ltb-false i j f, ltb-false j i g)

  -- so a step is by the arc that takes the pair, whichever it is
  pub its_step : S < 64 → (s : ℕ) (p : Pair) → is_pair p ≡ true → (d : Arc) (i : ℕ) → i < length (arcs_of part)
      → takes_from (get_or (arcs_of part) i d) s p ≡ true → step_of (machine_of part) s p ≡ some ((get_or (arcs_of part) i d).to, (get_or (arcs_of part) i d).marks)
  unfolding machine_of
  its_step hS s p q d i h t = step_at_lem d s p (arcs_of part) i h t (λ j hj tj. one_arc hS s p q d j i hj h tj t)

  -- a step leads to a state of the machine, with at most 15 marks, and its pair is over the S symbols
  pub step_bounds : (s : ℕ) (p : Pair) (r : ℕ × ℕ) → step_of (machine_of part) s p ≡ some r → StepBounds S part p r
  unfolding machine_of
  step_bounds s p r e =
      let d : Arc = record { from = 0; to = 0; marks = 0; kind = 0; inputs = 0; outputs = 0 } in
      let w = step_by d s p (arcs_of part) r e in
      let a = get_or (arcs_of part) w.0 d in
      let f = sound_facts S (state_count part) a (arc_sound d w.0 w.1) in
      let g = taken_within S (state_count part) a p (arc_sound d w.0 w.1) (right (eqb a.from s) (takes a p) w.2) in
      let to : r.0 ≡ a.to = ap (λ (x : ℕ × ℕ). x.0) w.3 in
      let marks : r.1 ≡ a.marks = ap (λ (x : ℕ × ℕ). x.1) w.3 in
      record { state = omega arith; marks = omega arith; input = g.0; output = g.1 }

  -- a state that is ended in is one of the machine, with at most 15 marks
  pub ending_bounds : (s m : ℕ) → ending_of (machine_of part) s ≡ some m → (s < state_count part) × (m ≤ 15)
  unfolding machine_of ending_of
  ending_bounds s m e = go (ltb s (state_count part)) refl
    where
      bytes : List ℕ
      bytes = state_bytes part

      count : length (map ending_byte bytes) ≡ state_count part
      count = state_count_lem part (accepted S part ok).shape

      few : (b : ℕ) → leb b 16 ≡ true → ending_byte b ≡ some m → m ≤ 15
      few zero t q = absurd (Option·none-ne-some m q)
      few (suc b) t q = let z : b ≡ m = cc in omega (arith, leb-true (suc b) 16 t)

      go : (b : Bool) → ltb s (state_count part) ≡ b → (s < state_count part) × (m ≤ 15)
      go true h =
          let l = ltb-true s (state_count part) h in
          let f = all_at (λ b. leb b 16) bytes 0 (accepted S part ok).states s (omega (arith, count, length-map bytes ending_byte, l)) in
          (l, few (get_or bytes s 0) f (sym (List·getD-map ending_byte bytes s 0) ∙ e))
      go false h = absurd (Option·none-ne-some m (sym (List·getD-eq-default (map ending_byte bytes) none (omega (arith, count, ltb-false s (state_count part) h))) ∙ e))
