-- What the checks of a part promise: its shape, the verdict of each, the fields of its arcs. Assumes nothing.
use Rattle.std.specs.Prelude.{◌≡◌, ◌&&◌, ◌∷◌, ◌+◌, ◌*◌, ◌^◌, ◌<◌, ◌≤◌}
use Rattle.basics.proofs.Words.{refl, ◌∙◌, Bool, true, false, not, List, [], ℕ, arith, length, length-map, eqb, ltb, leb, length-slice, member, clash as never, left, right, member_beyond}
use Rattle.std.proofs.Common.{ltb-true, leb-true, leb-false, eqb-true}
use Rattle.refusals.specs.Refusals.{refuse, first_of}
use Rattle.machine.specs.declared.Arc.{Arc}
use Rattle.machine.specs.declared.Pair.{Pair}
use Rattle.machine.specs.Machine.{state_count_of, of_kind, takes}
use Rattle.machine.specs.Part.{state_count, arc_count, state_bytes, ending_byte, machine_of, shaped, sound_set, sound_arc, sound_states, sound_arcs, no_clash, part_refusal}

-- a part that passes refusal 3
pub record Shaped (part : List ℕ) : Type 0 where
  pub two : 2 ≤ length part
  pub some_state : 1 ≤ state_count part
  pub states : state_count part ≤ 32
  pub whole : length part ≡ 2 + state_count part + 20 * arc_count part

pub shape_facts : (part : List ℕ) → shaped part ≡ true → Shaped part
unfolding shaped
shape_facts l t =
    let a = leb 2 (length l) in
    let b = leb 1 (state_count l) in
    let d = leb (state_count l) 32 in
    let e = eqb (length l) (2 + state_count l + 20 * arc_count l) in
    let abd : (a && b && d) ≡ true = left (a && b && d) e t in
    let ab : (a && b) ≡ true = left (a && b) d abd in
    record {
      two = leb-true 2 (length l) (left a b ab);
      some_state = leb-true 1 (state_count l) (right a b ab);
      states = leb-true (state_count l) 32 (right (a && b) d abd);
      whole = eqb-true (length l) (2 + state_count l + 20 * arc_count l) (right (a && b && d) e t);
    }

-- its machine has as many states as the part says
pub state_count_lem : (part : List ℕ) → shaped part ≡ true → state_count_of (machine_of part) ≡ state_count part
unfolding machine_of
state_count_lem part t =
    length-map (state_bytes part) ending_byte
    ∙ length-slice 2 (2 + state_count part) part (omega (arith, shape_facts part t))
    ∙ omega arith

-- a part that passes all three
pub record Accepted (S : ℕ) (part : List ℕ) : Type 0 where
  pub shape : shaped part ≡ true
  pub states : sound_states part ≡ true
  pub arcs : sound_arcs S part ≡ true
  pub clashes : no_clash part ≡ true

-- the four tests of a part
pub verdict : (a b d e : Bool) → first_of (refuse 3 a ∷ refuse 4 b ∷ refuse 4 d ∷ refuse 5 e ∷ []) ≡ 0 → (a ≡ true) × (b ≡ true) × (d ≡ true) × (e ≡ true)
verdict true true true true h = (refl, refl, refl, refl)
verdict true true true false h = absurd (omega arith)
verdict true true false e h = absurd (omega arith)
verdict true false d e h = absurd (omega arith)
verdict false b d e h = absurd (omega arith)

pub accepted : (S : ℕ) (part : List ℕ) → part_refusal S part ≡ 0 → Accepted S part
unfolding part_refusal
accepted S l h = go (shaped l) (sound_states l) (sound_arcs S l) (no_clash l) refl refl refl refl
  where
    go : (a b d e : Bool) → shaped l ≡ a → sound_states l ≡ b → sound_arcs S l ≡ d → no_clash l ≡ e → Accepted S l
    go true true true true p q r s = record { shape = p; states = q; arcs = r; clashes = s }
    go true true true false p q r s = absurd (let z = simp (p, q, r, s) at h in omega (arith, z))
    go true true false true p q r s = absurd (let z = simp (p, q, r, s) at h in omega (arith, z))
    go true true false false p q r s = absurd (let z = simp (p, q, r, s) at h in omega (arith, z))
    go true false d e p q r s = absurd (let z = simp (p, q) at h in omega (arith, z))
    go false b d e p q r s = absurd (let z = simp p at h in omega (arith, z))

-- an arc of an accepted part, on a card of S symbols, in a machine of Q states
pub record SoundArc (S Q : ℕ) (a : Arc) : Type 0 where
  pub from : a.from < Q
  pub to : a.to < Q
  pub marks : a.marks ≤ 15
  pub kind : a.kind ≤ 2
  pub inputs : a.inputs < 2 ^ (S + 1)
  pub outputs : a.outputs < 2 ^ (S + 1)

pub sound_facts : (S Q : ℕ) (a : Arc) → sound_arc S Q a ≡ true → SoundArc S Q a
unfolding sound_arc
sound_facts S Q a t =
    let p = ltb a.from Q in
    let q = ltb a.to Q in
    let m = leb a.marks 15 in
    let k = leb a.kind 2 in
    let i = sound_set S a.inputs in
    let o = sound_set S a.outputs in
    let i? = not (eqb a.inputs 0) in
    let o? = not (eqb a.outputs 0) in
    let pqmki : (p && q && m && k && i) ≡ true = left (p && q && m && k && i) o t in
    let pqmk : (p && q && m && k) ≡ true = left (p && q && m && k) i pqmki in
    let pqm : (p && q && m) ≡ true = left (p && q && m) k pqmk in
    let pq : (p && q) ≡ true = left (p && q) m pqm in
    record {
      from = ltb-true a.from Q (left p q pq);
      to = ltb-true a.to Q (right p q pq);
      marks = leb-true a.marks 15 (right (p && q) m pqm);
      kind = leb-true a.kind 2 (right (p && q && m) k pqmk);
      inputs = ltb-true a.inputs (2 ^ (S + 1)) (right i? (ltb a.inputs (2 ^ (S + 1))) (right (p && q && m && k) i pqmki));
      outputs = ltb-true a.outputs (2 ^ (S + 1)) (right o? (ltb a.outputs (2 ^ (S + 1))) (right (p && q && m && k && i) o t));
    }

-- a member of a set with no bit over S is at most S
member_within : (S w n : ℕ) → w < 2 ^ (S + 1) → member w n ≡ true → n ≤ S
member_within S w n h t = go (leb n S) refl
  where
    go : (b : Bool) → leb n S ≡ b → n ≤ S
    go true e = leb-true n S e
    go false e = absurd (never t (member_beyond w (S + 1) n h (omega (arith, leb-false n S e))))

-- the pairs that a sound arc takes are over the S symbols
pub taken_within : (S Q : ℕ) (a : Arc) (p : Pair) → sound_arc S Q a ≡ true → takes a p ≡ true → (p.input ≤ S) × (p.output ≤ S)
unfolding takes
taken_within S Q a p h t =
    let f = sound_facts S Q a h in
    let i = member a.inputs p.input in
    let o = member a.outputs p.output in
    let io = left (i && o) (of_kind a.kind p) t in
    (member_within S a.inputs p.input f.inputs (left i o io), member_within S a.outputs p.output f.outputs (right i o io))
