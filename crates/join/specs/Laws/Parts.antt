-- The machine of an accepted part is sound; and a part of the right shape with a sound machine is accepted. Assumes nothing.
use Rattle.std.specs.Prelude.{◌≡◌, ◌&&◌, ◌∷◌}
use Rattle.basics.proofs.Words.{refl, sym, ap, ap₂, ◌∙◌, Bool, true, List, [], map, ℕ, zero, suc, arith, eqb, leb, all_of, same, both, left, right}
use Rattle.std.proofs.Common.{eqb-true, leb-true, eq-eqb, le-leb}
use Rattle.refusals.specs.Refusals.{first_of}
use Rattle.refusals.proofs.Refusals.{none_first}
use Rattle.machine.specs.Part.{state_count, state_bytes, ending_byte, arcs_of, machine_of, shaped, sound_arc, sound_states, sound_arcs, part_refusal}
use Rattle.machine.specs.Accepted.{Accepted, accepted, shape_facts, state_count_lem}
use Rattle.card.specs.Card.{parts_refusal}
use Rattle.machine.specs.Machine.{state_count_of}
use Rattle.join.specs.Laws.Machines.{few_ending_marks, sound_machine, SoundMachine, sound_machine_lem}

-- state bytes of at most 16 stand for at most 15 marks, and the other way round
few_bytes : (bytes : List ℕ) → all_of (λ b. leb b 16) bytes ≡ all_of few_ending_marks (map ending_byte bytes)
unfolding all_of
few_bytes [] = refl
few_bytes (zero ∷ bytes) = few_bytes bytes
few_bytes (suc m ∷ bytes) = ap₂ (λ a b. a && b) (same (leb (suc m) 16) (leb m 15) (λ t. le-leb m 15 (omega (arith, leb-true (suc m) 16 t))) (λ t. le-leb (suc m) 16 (omega (arith, leb-true m 15 t)))) (few_bytes bytes)

pub part_machine_sound : (S : ℕ) (part : List ℕ) → part_refusal S part ≡ 0 → sound_machine S (machine_of part) ≡ true
unfolding sound_machine machine_of
part_machine_sound S part ok = both (both (both (le-leb 1 (state_count_of (machine_of part)) (omega (arith, states, shape_facts part a.shape))) (sym (few_bytes (state_bytes part)) ∙ a.states)) arcs) a.clashes
  where
    a : Accepted S part
    a = accepted S part ok

    states : state_count_of (machine_of part) ≡ state_count part
    states = state_count_lem part a.shape

    arcs : all_of (sound_arc S (state_count_of (machine_of part))) (arcs_of part) ≡ true
    arcs = ap (λ Q. all_of (sound_arc S Q) (arcs_of part)) states ∙ a.arcs

pub sound_part_accepted : (S : ℕ) (part : List ℕ) → shaped part ≡ true → sound_machine S (machine_of part) ≡ true → part_refusal S part ≡ 0
unfolding part_refusal machine_of
sound_part_accepted S part shape sound = rw (shape, states, arcs, f.clashes)
  where
    f : SoundMachine S (machine_of part)
    f = sound_machine_lem S (machine_of part) sound

    states : sound_states part ≡ true
    states = few_bytes (state_bytes part) ∙ f.endings

    arcs : sound_arcs S part ≡ true
    arcs = ap (λ Q. all_of (sound_arc S Q) (arcs_of part)) (sym (state_count_lem part shape)) ∙ f.arcs

-- parts are accepted where each is
abbrev pub passes : ℕ → List ℕ → Bool
passes S part = eqb (part_refusal S part) 0

pub each_passes : (S : ℕ) (parts : List (List ℕ)) → parts_refusal S parts ≡ 0 → all_of (passes S) parts ≡ true
unfolding parts_refusal all_of
each_passes S [] e = refl
each_passes S (part ∷ parts) e =
    let h = none_first (part_refusal S part) (map (part_refusal S) parts) e in
    both (eq-eqb (part_refusal S part) 0 h.0) (each_passes S parts h.1)

pub all_accepted : (S : ℕ) (parts : List (List ℕ)) → all_of (passes S) parts ≡ true → parts_refusal S parts ≡ 0
unfolding parts_refusal all_of
all_accepted S [] t = refl
all_accepted S (part ∷ parts) t =
    let e = eqb-true (part_refusal S part) 0 (left (passes S part) (all_of (passes S) parts) t) in
    let r = all_accepted S parts (right (passes S part) (all_of (passes S) parts) t) in
    ap (λ n. first_of (n ∷ map (part_refusal S) parts)) e ∙ r

pub machines_sound : (S : ℕ) (parts : List (List ℕ)) → parts_refusal S parts ≡ 0 → all_of (sound_machine S) (map machine_of parts) ≡ true
unfolding parts_refusal all_of
machines_sound S [] e = refl
machines_sound S (part ∷ parts) e =
    let h = none_first (part_refusal S part) (map (part_refusal S) parts) e in
    both (part_machine_sound S part h.0) (machines_sound S parts h.1)
