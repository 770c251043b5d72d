-- The bytes of a machine are a part whose machine it is. Assumes nothing.
use Rattle.std.specs.Prelude.{◌≡◌, ◌∷◌, ◌++◌, ◌+◌, ◌*◌, ◌/◌, ◌%◌, ◌^◌, ◌<◌, ◌≤◌}
use Rattle.basics.proofs.Words.{refl, sym, ap, ◌∙◌, true, List, [], map, Option, some, none, ℕ, zero, suc, arith, length, get_or, take, drop, length-map, leb, lit<, get_or-drop, drop-drop, take_at, drop_at, all_of, joined, both, left, right}
use Rattle.std.proofs.Math.Pow.{pow_mono}
use Rattle.std.proofs.Common.{leb-true, le-leb, eq-eqb}
use Rattle.machine.specs.declared.Arc.{Arc}
use Rattle.machine.specs.Machine.{Machine, state_count_of}
use Rattle.machine.specs.Part.{four_bytes_at, eight_bytes_at, arc_at, arcs_at, state_bytes, ending_byte, arcs_of, machine_of, shaped, sound_arc, part_refusal}
use Rattle.machine.specs.Accepted.{sound_facts}
use Rattle.layout.specs.Layout.{Bytes}
use Rattle.card.specs.Laws.Bytes.{bytes_none, bytes_cons, bytes_append}
use Rattle.join.specs.JoinedCard.{little_endian, arc_bytes, state_byte, machine_bytes}
use Rattle.joined.specs.Laws.Writing.{bytes_length}
use Rattle.join.specs.Laws.Machines.{few_ending_marks, sound_machine, SoundMachine, sound_machine_lem}
use Rattle.join.specs.Laws.Parts.{sound_part_accepted}

-- ---- reading back a number and an arc, where the bytes from a place on are known

module _ (l : List ℕ) (at : ℕ) where
  byte_at : (ys : List ℕ) → drop at l ≡ ys → (k : ℕ) → get_or l (at + k) 0 ≡ get_or ys k 0
  byte_at ys e k = sym (get_or-drop at l k 0) ∙ ap (λ (zs : List ℕ). get_or zs k 0) e

  first_byte : (y : ℕ) (ys : List ℕ) → drop at l ≡ y ∷ ys → get_or l at 0 ≡ y
  first_byte y ys e = let z : at ≡ at + 0 = omega arith in ap (λ n. get_or l n 0) z ∙ byte_at (y ∷ ys) e 0

  later : (k : ℕ) (ys : List ℕ) → drop at l ≡ ys → drop (at + k) l ≡ drop k ys
  later k ys e = sym (drop-drop k at l) ∙ ap (λ (zs : List ℕ). drop k zs) e

  half_back : (w : ℕ) (rest : List ℕ) → drop at l ≡ little_endian 4 w ++ rest → four_bytes_at l at ≡ w % 2 ^ 32
  half_back w rest e =
      let ys = little_endian 4 w ++ rest in
      let b0 : get_or l at 0 ≡ w % 256 = first_byte (w % 256) (drop 1 ys) e in
      let b1 : get_or l (at + 1) 0 ≡ w / 256 % 256 = byte_at ys e 1 in
      let b2 : get_or l (at + 2) 0 ≡ w / 256 / 256 % 256 = byte_at ys e 2 in
      let b3 : get_or l (at + 3) 0 ≡ w / 256 / 256 / 256 % 256 = byte_at ys e 3 in
      omega (arith, b0, b1, b2, b3)

word_back : (l : List ℕ) (at w : ℕ) (rest : List ℕ) → w < 2 ^ 64 → drop at l ≡ little_endian 8 w ++ rest → eight_bytes_at l at ≡ w
word_back l at w rest h e =
    let v = w / 256 / 256 / 256 / 256 in
    let low = half_back l at w (little_endian 4 v ++ rest) e in
    let high = half_back l (at + 4) v rest (later l at 4 (little_endian 8 w ++ rest) e) in
    omega (arith, low, high, h)

arc_back : (l : List ℕ) (at : ℕ) (a : Arc) (rest : List ℕ) → a.inputs < 2 ^ 64 → a.outputs < 2 ^ 64 → drop at l ≡ arc_bytes a ++ rest → arc_at l at ≡ a
unfolding arc_at
arc_back l at a rest hi ho e =
    let ys = arc_bytes a ++ rest in
    let f : get_or l at 0 ≡ a.from = first_byte l at a.from (drop 1 ys) e in
    let t : get_or l (at + 1) 0 ≡ a.to = byte_at l at ys e 1 in
    let m : get_or l (at + 2) 0 ≡ a.marks = byte_at l at ys e 2 in
    let r : get_or l (at + 3) 0 ≡ a.kind = byte_at l at ys e 3 in
    let i = word_back l (at + 4) a.inputs (little_endian 8 a.outputs ++ rest) hi (later l at 4 ys e) in
    let o = word_back l (at + 12) a.outputs rest ho (later l at 12 ys e) in
    λ n. record { from = f n; to = t n; marks = m n; kind = r n; inputs = i n; outputs = o n }

-- every set is one of 64 bits
abbrev pub Words : List Arc → Type 0
Words [] = Unit {0}
Words (a ∷ rest) = (a.inputs < 2 ^ 64) × (a.outputs < 2 ^ 64) × Words rest

arcs_back : (l : List ℕ) (at : ℕ) (arcs : List Arc) → Words arcs → drop at l ≡ joined arc_bytes arcs → arcs_at l at (length arcs) ≡ arcs
unfolding arcs_at joined
arcs_back l at [] h e = refl
arcs_back l at (a ∷ rest) h e =
    let first = arc_back l at a (joined arc_bytes rest) h.0 h.1 e in
    let others = arcs_back l (at + 20) rest h.2 (later l at 20 (arc_bytes a ++ joined arc_bytes rest) e) in
    λ n. first n ∷ others n

-- ---- the machine

endings_back : (os : List (Option ℕ)) → map ending_byte (map state_byte os) ≡ os
endings_back [] = refl
endings_back (none ∷ os) = ap (λ (l : List (Option ℕ)). none ∷ l) (endings_back os)
endings_back (some m ∷ os) = ap (λ (l : List (Option ℕ)). some m ∷ l) (endings_back os)

states_are_bytes : (os : List (Option ℕ)) → all_of few_ending_marks os ≡ true → Bytes (map state_byte os)
unfolding all_of
states_are_bytes [] t = bytes_none
states_are_bytes (none ∷ os) t = bytes_cons 0 (map state_byte os) (lit< tt) (states_are_bytes os t)
states_are_bytes (some m ∷ os) t =
    bytes_cons (suc m) (map state_byte os) (omega (arith, leb-true m 15 (left (leb m 15) (all_of few_ending_marks os) t))) (states_are_bytes os (right (leb m 15) (all_of few_ending_marks os) t))

number_is_bytes : (n w : ℕ) → Bytes (little_endian n w)
number_is_bytes zero w = bytes_none
number_is_bytes (suc n) w = bytes_cons (w % 256) (little_endian n (w / 256)) (omega arith) (number_is_bytes n (w / 256))

arcs_are_bytes : (S Q : ℕ) → Q ≤ 256 → (xs : List Arc) → all_of (sound_arc S Q) xs ≡ true → Bytes (joined arc_bytes xs)
unfolding joined all_of
arcs_are_bytes S Q h [] t = bytes_none
arcs_are_bytes S Q h (a ∷ xs) t =
    let ok = left (sound_arc S Q a) (all_of (sound_arc S Q) xs) t in
    let f = sound_facts S Q a ok in
    let i = little_endian 8 a.inputs in
    let o = little_endian 8 a.outputs in
    bytes_append (arc_bytes a) (joined arc_bytes xs)
    (bytes_cons a.from (a.to ∷ a.marks ∷ a.kind ∷ i ++ o) (omega (arith, f.from, h))
    (bytes_cons a.to (a.marks ∷ a.kind ∷ i ++ o) (omega (arith, f.to, h))
    (bytes_cons a.marks (a.kind ∷ i ++ o) (omega (arith, f.marks))
    (bytes_cons a.kind (i ++ o) (omega (arith, f.kind))
    (bytes_append i o (number_is_bytes 8 a.inputs) (number_is_bytes 8 a.outputs))))))
    (arcs_are_bytes S Q h xs (right (sound_arc S Q a) (all_of (sound_arc S Q) xs) t))

module _ (m : Machine) where
  past_two : 2 + state_count_of m ≡ suc (suc (state_count_of m))
  past_two = omega arith

  state_bytes_lem : state_bytes (machine_bytes m) ≡ map state_byte m.endings
  unfolding machine_bytes
  state_bytes_lem =
      ap (λ n. drop 2 (take n (machine_bytes m))) past_two
      ∙ take_at (map state_byte m.endings) (joined arc_bytes m.arcs) (state_count_of m) (length-map m.endings state_byte)

  arc_bytes_lem : drop (2 + state_count_of m) (machine_bytes m) ≡ joined arc_bytes m.arcs
  unfolding machine_bytes
  arc_bytes_lem =
      ap (λ n. drop n (machine_bytes m)) past_two
      ∙ drop_at (map state_byte m.endings) (joined arc_bytes m.arcs) (state_count_of m) (length-map m.endings state_byte)

  pub machine_back : Words m.arcs → machine_of (machine_bytes m) ≡ m
  unfolding machine_of machine_bytes
  machine_back h =
      let f : map ending_byte (state_bytes (machine_bytes m)) ≡ m.endings = ap (map ending_byte) state_bytes_lem ∙ endings_back m.endings in
      let a : arcs_of (machine_bytes m) ≡ m.arcs = arcs_back (machine_bytes m) (2 + state_count_of m) m.arcs h arc_bytes_lem in
      λ n. record { endings = f n; arcs = a n }

  -- ---- the part is accepted, and its bytes are bytes

  bytes_shaped : 1 ≤ state_count_of m → state_count_of m ≤ 32 → shaped (machine_bytes m) ≡ true
  unfolding shaped machine_bytes
  bytes_shaped h k =
      both (both (both (le-leb 2 (length (machine_bytes m)) (omega arith)) (le-leb 1 (state_count_of m) h)) (le-leb (state_count_of m) 32 k))
      (eq-eqb (length (machine_bytes m)) (2 + state_count_of m + 20 * length m.arcs) (bytes_length m))

  module _ (S : ℕ) (few : S < 64) (sound : sound_machine S m ≡ true) where
    facts : SoundMachine S m
    facts = sound_machine_lem S m sound

    words : (Q : ℕ) (arcs : List Arc) → all_of (sound_arc S Q) arcs ≡ true → Words arcs
    unfolding all_of
    words Q [] t = tt
    words Q (a ∷ rest) t =
        let f = sound_facts S Q a (left (sound_arc S Q a) (all_of (sound_arc S Q) rest) t) in
        let h : S + 1 ≤ 64 = omega (arith, few) in
        let p : 2 ^ (S + 1) ≤ 2 ^ 64 = pow_mono h in
        (omega (arith, f.inputs, p), omega (arith, f.outputs, p), words Q rest (right (sound_arc S Q a) (all_of (sound_arc S Q) rest) t))

    pub sound_back : machine_of (machine_bytes m) ≡ m
    sound_back = machine_back (words (state_count_of m) m.arcs facts.arcs)

    pub sound_is_bytes : state_count_of m ≤ 32 → length m.arcs ≤ 255 → Bytes (machine_bytes m)
    unfolding machine_bytes
    sound_is_bytes h k =
        bytes_cons (state_count_of m) (length m.arcs ∷ map state_byte m.endings ++ joined arc_bytes m.arcs) (omega (arith, h))
        (bytes_cons (length m.arcs) (map state_byte m.endings ++ joined arc_bytes m.arcs) (omega (arith, k))
        (bytes_append (map state_byte m.endings) (joined arc_bytes m.arcs) (states_are_bytes m.endings facts.endings) (arcs_are_bytes S (state_count_of m) (omega (arith, h)) m.arcs facts.arcs)))

    pub bytes_accepted : state_count_of m ≤ 32 → part_refusal S (machine_bytes m) ≡ 0
    bytes_accepted h =
        sound_part_accepted S (machine_bytes m) (bytes_shaped facts.some_state h) (ap (sound_machine S) sound_back ∙ sound)
