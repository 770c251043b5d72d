-- One law on a step of the joined machine, one on an ending, and what follows for lists of pairs. Assumes nothing.
use Rattle.std.specs.Prelude.{◌≡◌, ◌&&◌, ◌∷◌, ◌++◌, ◌+◌, ◌*◌, ◌/◌, ◌%◌, ◌<◌}
use Rattle.basics.proofs.Words.{refl, sym, ap, ◌∙◌, Bool, true, false, List, [], map, Option, some, none, ℕ, arith, eqb, mul-add-div_right, mul-add-mod_self_right, div-eq_of_lt, mod-eq_of_lt, all_of, those, joined, member, same, both, left, right, fails, clash, those_here, those_later, member_and}
use Rattle.std.proofs.Common.{eqb-true, eq-eqb}
use Rattle.machine.specs.declared.Arc.{Arc}
use Rattle.machine.specs.declared.Pair.{Pair}
use Rattle.machine.specs.Symbols.{is_pair}
use Rattle.machine.specs.Machine.{Machine, state_count_of, start_state, of_kind, takes, takes_from, step_among, step_of, ending_of, take_one_pair}
use Rattle.machine.specs.Part.{sound_arc}
use Rattle.machine.specs.Accepted.{sound_facts, taken_within}
use Rattle.machine.specs.CommonPair.{take_one, common_pair}
use Rattle.machine.specs.Steps.{step_taken, step_passed}
use Rattle.candidate.specs.Candidates.{add_marks, marks_from, marks_of}
use Rattle.product.specs.Laws.JointStep.{marks_next, marks_stuck}
use Rattle.join.specs.JoinedMachine.{joined_state, joined_arc, arcs_with, joined_arcs, joined_machine, both_marks}
use Rattle.joined.specs.CommonPairs.{kinds_clash}
use Rattle.joined.specs.Laws.KindsInCommon.{no_common_kind, kinds_joined}
use Rattle.join.specs.Laws.Machines.{sound_machine, sound_machine_lem}
use Rattle.joined.specs.Laws.Crossed.{crossed_at}

-- ---- a joined arc takes what both take, from the state that stands for their states

pub joined_takes : (Q : ℕ) (a b : Arc) → take_one_pair a b ≡ true → (p : Pair) → takes (joined_arc Q a b) p ≡ (takes a p && takes b p)
unfolding takes
joined_takes Q a b c p =
    let k = common_pair a b c in
    let q = k.pair in
    let ka = right (member a.inputs q.input && member a.outputs q.output) (of_kind a.kind q) k.first in
    let kb = right (member b.inputs q.input && member b.outputs q.output) (of_kind b.kind q) k.second in
    let f : kinds_clash a.kind b.kind ≡ false = fails (kinds_clash a.kind b.kind) (λ t. no_common_kind a.kind b.kind t q ka kb) in
    rw (member_and a.inputs b.inputs p.input, member_and a.outputs b.outputs p.output, kinds_joined a.kind b.kind f p)
    (crosswise (member a.inputs p.input) (member b.inputs p.input) (member a.outputs p.output) (member b.outputs p.output) (of_kind a.kind p) (of_kind b.kind p))
  where
    crosswise : (x y z w k l : Bool) → (((x && y) && (z && w)) && (k && l)) ≡ (((x && z) && k) && ((y && w) && l))
    crosswise true true true true true l = refl
    crosswise true true true true false l = refl
    crosswise true true true false true l = refl
    crosswise true true true false false l = refl
    crosswise true true false w k l = refl
    crosswise true false true w true l = refl
    crosswise true false true w false l = refl
    crosswise true false false w k l = refl
    crosswise false y z w k l = refl

pub same_states : (Q s t u v : ℕ) → t < Q → v < Q → joined_state Q s t ≡ joined_state Q u v → (s ≡ u) × (t ≡ v)
same_states Q s t u v ht hv e =
    let q : 0 < Q = omega arith in
    let d : (s * Q + t) / Q ≡ s = mul-add-div_right q s t ∙ ap (λ x. s + x) (div-eq_of_lt ht) ∙ (omega arith) in
    let f : (u * Q + v) / Q ≡ u = mul-add-div_right q u v ∙ ap (λ x. u + x) (div-eq_of_lt hv) ∙ (omega arith) in
    let g : (s * Q + t) % Q ≡ t = mul-add-mod_self_right s Q t ∙ mod-eq_of_lt ht in
    let h : (u * Q + v) % Q ≡ v = mul-add-mod_self_right u Q v ∙ mod-eq_of_lt hv in
    (sym d ∙ ap (λ x. x / Q) e ∙ f, sym g ∙ ap (λ x. x % Q) e ∙ h)

pub joined_takes_from : (Q : ℕ) (a b : Arc) → take_one_pair a b ≡ true → (s t : ℕ) (p : Pair) → b.from < Q → t < Q → takes_from (joined_arc Q a b) (joined_state Q s t) p ≡ (takes_from a s p && takes_from b t p)
joined_takes_from Q a b c s t p hb ht =
    same (takes_from (joined_arc Q a b) (joined_state Q s t) p) (takes_from a s p && takes_from b t p) apart_then together
  where
    apart_then : takes_from (joined_arc Q a b) (joined_state Q s t) p ≡ true → (takes_from a s p && takes_from b t p) ≡ true
    apart_then k =
        let e = same_states Q a.from b.from s t hb ht (eqb-true (joined_state Q a.from b.from) (joined_state Q s t) (left (eqb (joined_state Q a.from b.from) (joined_state Q s t)) (takes (joined_arc Q a b) p) k)) in
        let w = sym (joined_takes Q a b c p) ∙ right (eqb (joined_state Q a.from b.from) (joined_state Q s t)) (takes (joined_arc Q a b) p) k in
        both (both (eq-eqb a.from s e.0) (left (takes a p) (takes b p) w)) (both (eq-eqb b.from t e.1) (right (takes a p) (takes b p) w))

    together : (takes_from a s p && takes_from b t p) ≡ true → takes_from (joined_arc Q a b) (joined_state Q s t) p ≡ true
    together k =
        let ka = left (takes_from a s p) (takes_from b t p) k in
        let kb = right (takes_from a s p) (takes_from b t p) k in
        let ea = eqb-true a.from s (left (eqb a.from s) (takes a p) ka) in
        let eb = eqb-true b.from t (left (eqb b.from t) (takes b p) kb) in
        both (eq-eqb (joined_state Q a.from b.from) (joined_state Q s t) (ap (λ x. x * Q + b.from) ea ∙ ap (λ x. s * Q + x) eb))
        (joined_takes Q a b c p ∙ both (right (eqb a.from s) (takes a p) ka) (right (eqb b.from t) (takes b p) kb))

-- ---- the first arc that takes a pair from a state

step_append : (xs ys : List Arc) (s : ℕ) (p : Pair) (o : Option (ℕ × ℕ)) → step_among xs s p ≡ o → step_among (xs ++ ys) s p ≡ elim o [ none ↦ step_among ys s p | some r ↦ some r ]
unfolding step_among
step_append [] ys s p none e = refl
step_append [] ys s p (some r) e = absurd (let z : ◌≡◌ {A = ℕ} 0 1 = cc in omega arith)
step_append (x ∷ xs) ys s p o e = go (takes_from x s p) refl o e (step_append xs ys s p)
  where
    go : (b : Bool) → takes_from x s p ≡ b → (o : Option (ℕ × ℕ)) → step_among (x ∷ xs) s p ≡ o
        → ((o : Option (ℕ × ℕ)) → step_among xs s p ≡ o → step_among (xs ++ ys) s p ≡ elim o [ none ↦ step_among ys s p | some r ↦ some r ])
        → step_among (x ∷ xs ++ ys) s p ≡ elim o [ none ↦ step_among ys s p | some r ↦ some r ]
    go true t none e r = absurd (let q = sym e ∙ step_taken x xs s p t in let z : ◌≡◌ {A = ℕ} 0 1 = cc in omega arith)
    go true t (some k) e r = step_taken x (xs ++ ys) s p t ∙ sym (step_taken x xs s p t) ∙ e
    go false t o e r = step_passed x (xs ++ ys) s p t ∙ r o (sym (step_passed x xs s p t) ∙ e)

-- ---- the step law: a step of the joined machine is a step of each, the first of the arcs in the stated order

-- where a step of each leads: none where one has none, else to the state for theirs, the marks added
abbrev pub both_steps : ℕ → Option (ℕ × ℕ) → Option (ℕ × ℕ) → Option (ℕ × ℕ)
both_steps Q none r = none
both_steps Q (some l) none = none
both_steps Q (some l) (some r) = some (joined_state Q l.0 r.0, l.1 + r.1)

both_none : (Q : ℕ) (o : Option (ℕ × ℕ)) → both_steps Q o none ≡ none
both_none Q none = refl
both_none Q (some l) = refl

module _ (S Qa Q : ℕ) (few : S < 64) (p : Pair) (is : is_pair p ≡ true) (s t : ℕ) (below : t < Q) where
  -- the joined arcs of one first arc a: they step where a and a second arc do
  with_skipped : (a b : Arc) (seconds : List Arc) → take_one_pair a b ≡ true → takes_from (joined_arc Q a b) (joined_state Q s t) p ≡ false
      → step_among (arcs_with Q (b ∷ seconds) a) (joined_state Q s t) p ≡ step_among (arcs_with Q seconds a) (joined_state Q s t) p
  with_skipped a b seconds c k =
      ap (λ (l : List Arc). step_among (map (joined_arc Q a) l) (joined_state Q s t) p) (those_here (take_one_pair a) b seconds c)
      ∙ step_passed (joined_arc Q a b) (arcs_with Q seconds a) (joined_state Q s t) p k

  with_left : (a b : Arc) (seconds : List Arc) → take_one_pair a b ≡ false
      → step_among (arcs_with Q (b ∷ seconds) a) (joined_state Q s t) p ≡ step_among (arcs_with Q seconds a) (joined_state Q s t) p
  with_left a b seconds c = ap (λ (l : List Arc). step_among (map (joined_arc Q a) l) (joined_state Q s t) p) (those_later (take_one_pair a) b seconds c)

  with_taken : (a b : Arc) (seconds : List Arc) → take_one_pair a b ≡ true → takes_from (joined_arc Q a b) (joined_state Q s t) p ≡ true
      → step_among (arcs_with Q (b ∷ seconds) a) (joined_state Q s t) p ≡ some (joined_state Q a.to b.to, a.marks + b.marks)
  with_taken a b seconds c k =
      ap (λ (l : List Arc). step_among (map (joined_arc Q a) l) (joined_state Q s t) p) (those_here (take_one_pair a) b seconds c)
      ∙ step_taken (joined_arc Q a b) (arcs_with Q seconds a) (joined_state Q s t) p k

  with_stuck : (a : Arc) → takes_from a s p ≡ false → (seconds : List Arc) → all_of (sound_arc S Q) seconds ≡ true → step_among (arcs_with Q seconds a) (joined_state Q s t) p ≡ none
  unfolding those step_among all_of
  with_stuck a k [] h = refl
  with_stuck a k (b ∷ seconds) h = go (take_one_pair a b) refl (with_stuck a k seconds (right (sound_arc S Q b) (all_of (sound_arc S Q) seconds) h))
    where
      f : b.from < Q
      f = (sound_facts S Q b (left (sound_arc S Q b) (all_of (sound_arc S Q) seconds) h)).from

      go : (c : Bool) → take_one_pair a b ≡ c → step_among (arcs_with Q seconds a) (joined_state Q s t) p ≡ none → step_among (arcs_with Q (b ∷ seconds) a) (joined_state Q s t) p ≡ none
      go true c r = with_skipped a b seconds c (joined_takes_from Q a b c s t p f below ∙ (rw k)) ∙ r
      go false c r = with_left a b seconds c ∙ r

  with_steps : (a : Arc) → sound_arc S Qa a ≡ true → takes_from a s p ≡ true → (seconds : List Arc) → all_of (sound_arc S Q) seconds ≡ true
      → step_among (arcs_with Q seconds a) (joined_state Q s t) p ≡ both_steps Q (some (a.to, a.marks)) (step_among seconds t p)
  unfolding those step_among all_of
  with_steps a ok k [] h = refl
  with_steps a ok k (b ∷ seconds) h = go (take_one_pair a b) refl (takes_from b t p) refl (with_steps a ok k seconds (right (sound_arc S Q b) (all_of (sound_arc S Q) seconds) h))
    where
      f : b.from < Q
      f = (sound_facts S Q b (left (sound_arc S Q b) (all_of (sound_arc S Q) seconds) h)).from

      ta : takes a p ≡ true
      ta = right (eqb a.from s) (takes a p) k

      one_pair : takes_from b t p ≡ true → take_one_pair a b ≡ true
      one_pair e =
          let w = taken_within S Qa a p ok ta in
          take_one a b p (omega (arith, few, w.0)) (omega (arith, few, w.1)) is ta (right (eqb b.from t) (takes b p) e)

      go : (c : Bool) → take_one_pair a b ≡ c → (e : Bool) → takes_from b t p ≡ e
          → step_among (arcs_with Q seconds a) (joined_state Q s t) p ≡ both_steps Q (some (a.to, a.marks)) (step_among seconds t p)
          → step_among (arcs_with Q (b ∷ seconds) a) (joined_state Q s t) p ≡ both_steps Q (some (a.to, a.marks)) (step_among (b ∷ seconds) t p)
      go true c true e r =
          with_taken a b seconds c (joined_takes_from Q a b c s t p f below ∙ both k e) ∙ ap (both_steps Q (some (a.to, a.marks))) (sym (step_taken b seconds t p e))
      go true c false e r =
          with_skipped a b seconds c (joined_takes_from Q a b c s t p f below ∙ (rw (k, e))) ∙ r ∙ ap (both_steps Q (some (a.to, a.marks))) (sym (step_passed b seconds t p e))
      go false c true e r = absurd (clash (one_pair e) c)
      go false c false e r = with_left a b seconds c ∙ r ∙ ap (both_steps Q (some (a.to, a.marks))) (sym (step_passed b seconds t p e))

  pub joined_steps : (firsts seconds : List Arc) → all_of (sound_arc S Qa) firsts ≡ true → all_of (sound_arc S Q) seconds ≡ true
      → step_among (joined_arcs Q firsts seconds) (joined_state Q s t) p ≡ both_steps Q (step_among firsts s p) (step_among seconds t p)
  unfolding joined step_among all_of
  joined_steps [] seconds ha hb = refl
  joined_steps (a ∷ firsts) seconds ha hb =
      go (takes_from a s p) refl (step_among seconds t p) refl (joined_steps firsts seconds (right (sound_arc S Qa a) (all_of (sound_arc S Qa) firsts) ha) hb)
    where
      ok : sound_arc S Qa a ≡ true
      ok = left (sound_arc S Qa a) (all_of (sound_arc S Qa) firsts) ha

      go : (c : Bool) → takes_from a s p ≡ c → (o : Option (ℕ × ℕ)) → step_among seconds t p ≡ o
          → step_among (joined_arcs Q firsts seconds) (joined_state Q s t) p ≡ both_steps Q (step_among firsts s p) (step_among seconds t p)
          → step_among (joined_arcs Q (a ∷ firsts) seconds) (joined_state Q s t) p ≡ both_steps Q (step_among (a ∷ firsts) s p) (step_among seconds t p)
      go true c (some r) e rec =
          let w : step_among (arcs_with Q seconds a) (joined_state Q s t) p ≡ some (joined_state Q a.to r.0, a.marks + r.1) =
          with_steps a ok c seconds hb ∙ ap (both_steps Q (some (a.to, a.marks))) e in
          step_append (arcs_with Q seconds a) (joined_arcs Q firsts seconds) (joined_state Q s t) p (some (joined_state Q a.to r.0, a.marks + r.1)) w
          ∙ ap (both_steps Q (some (a.to, a.marks))) (sym e)
          ∙ ap (λ o. both_steps Q o (step_among seconds t p)) (sym (step_taken a firsts s p c))
      go true c none e rec =
          step_append (arcs_with Q seconds a) (joined_arcs Q firsts seconds) (joined_state Q s t) p none (with_steps a ok c seconds hb ∙ ap (both_steps Q (some (a.to, a.marks))) e)
          ∙ rec
          ∙ ap (both_steps Q (step_among firsts s p)) e
          ∙ both_none Q (step_among firsts s p)
          ∙ sym (both_none Q (step_among (a ∷ firsts) s p))
          ∙ ap (both_steps Q (step_among (a ∷ firsts) s p)) (sym e)
      go false c o e rec =
          step_append (arcs_with Q seconds a) (joined_arcs Q firsts seconds) (joined_state Q s t) p none (with_stuck a c seconds hb)
          ∙ rec
          ∙ ap (λ o. both_steps Q o (step_among seconds t p)) (sym (step_passed a firsts s p c))

-- ---- the ending law

pub joined_ending : (a b : Machine) (s t : ℕ) → t < state_count_of b → ending_of (joined_machine a b) (joined_state (state_count_of b) s t) ≡ both_marks (ending_of a s) (ending_of b t)
unfolding joined_machine ending_of
joined_ending a b s t h = crossed_at both_marks none none none (λ n. refl) a.endings b.endings s t h

-- ---- hence lists of pairs

module _ (S : ℕ) (few : S < 64) (a b : Machine) (sa : sound_machine S a ≡ true) (sb : sound_machine S b ≡ true) where
  pub joined_step : (s t : ℕ) (p : Pair) → t < state_count_of b → is_pair p ≡ true
      → step_of (joined_machine a b) (joined_state (state_count_of b) s t) p ≡ both_steps (state_count_of b) (step_of a s p) (step_of b t p)
  unfolding joined_machine
  joined_step s t p h is =
      joined_steps S (state_count_of a) (state_count_of b) few p is s t h a.arcs b.arcs (sound_machine_lem S a sa).arcs (sound_machine_lem S b sb).arcs

  -- the states that a step leads to
  leads : (seconds : List Arc) (Q : ℕ) → all_of (sound_arc S Q) seconds ≡ true → (t : ℕ) (p : Pair) (r : ℕ × ℕ) → step_among seconds t p ≡ some r → r.0 < Q
  unfolding step_among all_of
  leads [] Q h t p r e = absurd (let z : ◌≡◌ {A = ℕ} 0 1 = cc in omega arith)
  leads (x ∷ xs) Q h t p r e = go (takes_from x t p) refl (leads xs Q (right (sound_arc S Q x) (all_of (sound_arc S Q) xs) h) t p r)
    where
      go : (c : Bool) → takes_from x t p ≡ c → (step_among xs t p ≡ some r → r.0 < Q) → r.0 < Q
      go true c rec =
          let q : some (x.to, x.marks) ≡ some r = sym (step_taken x xs t p c) ∙ e in
          let z : r.0 ≡ x.to = cc in
          omega (arith, z, (sound_facts S Q x (left (sound_arc S Q x) (all_of (sound_arc S Q) xs) h)).to)
      go false c rec = rec (sym (step_passed x xs t p c) ∙ e)

  pub joined_marks_from : (s t : ℕ) (c : List Pair) → t < state_count_of b → all_of is_pair c ≡ true
      → marks_from (joined_machine a b) (joined_state (state_count_of b) s t) c ≡ both_marks (marks_from a s c) (marks_from b t c)
  unfolding marks_from all_of
  joined_marks_from s t [] h is = joined_ending a b s t h
  joined_marks_from s t (p ∷ ps) h is =
      go (step_of a s p) refl (step_of b t p) refl (λ u v k. joined_marks_from u v ps k (right (is_pair p) (all_of is_pair ps) is))
    where
      Q : ℕ
      Q = state_count_of b

      j : Machine
      j = joined_machine a b

      step : step_of j (joined_state Q s t) p ≡ both_steps Q (step_of a s p) (step_of b t p)
      step = joined_step s t p h (left (is_pair p) (all_of is_pair ps) is)

      no_second : (o : Option ℕ) → both_marks o none ≡ none
      no_second none = refl
      no_second (some m) = refl

      sum : (m n : ℕ) (x y : Option ℕ) → add_marks (m + n) (both_marks x y) ≡ both_marks (add_marks m x) (add_marks n y)
      sum m n none y = refl
      sum m n (some x) none = refl
      sum m n (some x) (some y) = ap some (omega arith)

      go : (l : Option (ℕ × ℕ)) → step_of a s p ≡ l → (r : Option (ℕ × ℕ)) → step_of b t p ≡ r
          → ((u v : ℕ) → v < Q → marks_from j (joined_state Q u v) ps ≡ both_marks (marks_from a u ps) (marks_from b v ps))
          → marks_from j (joined_state Q s t) (p ∷ ps) ≡ both_marks (marks_from a s (p ∷ ps)) (marks_from b t (p ∷ ps))
      go none e r f rec =
          marks_stuck j (joined_state Q s t) p ps (step ∙ ap (λ o. both_steps Q o (step_of b t p)) e)
          ∙ ap (λ o. both_marks o (marks_from b t (p ∷ ps))) (sym (marks_stuck a s p ps e))
      go (some l) e none f rec =
          marks_stuck j (joined_state Q s t) p ps (step ∙ ap (both_steps Q (step_of a s p)) f ∙ both_none Q (step_of a s p))
          ∙ sym (no_second (marks_from a s (p ∷ ps)))
          ∙ ap (both_marks (marks_from a s (p ∷ ps))) (sym (marks_stuck b t p ps f))
      go (some l) e (some r) f rec =
          let k : step_of j (joined_state Q s t) p ≡ some (joined_state Q l.0 r.0, l.1 + r.1) = step ∙ ap (λ o. both_steps Q o (step_of b t p)) e ∙ ap (both_steps Q (some l)) f in
          marks_next j (joined_state Q s t) p ps (joined_state Q l.0 r.0, l.1 + r.1) k
          ∙ ap (add_marks (l.1 + r.1)) (rec l.0 r.0 (leads b.arcs Q (sound_machine_lem S b sb).arcs t p r f))
          ∙ sum l.1 r.1 (marks_from a l.0 ps) (marks_from b r.0 ps)
          ∙ ap (λ o. both_marks o (add_marks r.1 (marks_from b r.0 ps))) (sym (marks_next a s p ps l e))
          ∙ ap (both_marks (marks_from a s (p ∷ ps))) (sym (marks_next b t p ps r f))

  -- the joined machine takes what both take, and its marks are theirs added
  pub joined_marks : (c : List Pair) → all_of is_pair c ≡ true → marks_of c (joined_machine a b) ≡ both_marks (marks_of c a) (marks_of c b)
  joined_marks c is =
      let z : start_state ≡ joined_state (state_count_of b) start_state start_state = omega arith in
      ap (λ s. marks_from (joined_machine a b) s c) z ∙ joined_marks_from start_state start_state c (sound_machine_lem S b sb).some_state is
