-- A part rebuilt without an arc: its machine, and that it is accepted. Assumes nothing.
use Rattle.std.specs.Prelude.{◌≡◌, ◌∷◌, ◌++◌, ◌+◌, ◌*◌, ◌-◌, ◌^◌, ◌<◌, ◌≤◌}
use Rattle.basics.specs.Words.{refl, sym, ◌∙◌, ap, ap₂, List, [], map, ℕ, zero, suc, arith, length, get_or, take, drop, length-append, length-drop, length-set, List·getD-append, leb, slice, length-take-le, get_or-take, get_or-drop, get_or-append-add, get_or-set_same, get_or-set_other, take-set-lt, drop-set-lt, take-append-le, take-take, dec_lt, ℕ_discrete, all_of, pairwise, without}
use borrow.Author.Tests.{le-leb, eq-eqb}
use Rattle.machine.specs.declared.Arc.{Arc}
use Rattle.machine.specs.Part.{state_count, arc_count, four_bytes_at, eight_bytes_at, arc_at, arcs_at, state_bytes, arcs_of, ending_byte, machine_of, shaped, sound_arc, clash_free, part_refusal}
use Rattle.machine.specs.Accepted.{Shaped, accepted}
use Rattle.layout.specs.Layout.{Bytes}
use Rattle.trimming.specs.Travelling.{machine_without}
use Rattle.trimming.specs.Trimmed.{arc_place, part_without}
use Rattle.trimming.proofs.Lists.{all_without, pairwise_without}

-- ---- arcs by their bytes

-- an arc is its 20 bytes
module _ (l l' : List ℕ) (at at' : ℕ) (same : (k : ℕ) → k < 20 → get_or l (at + k) 0 ≡ get_or l' (at' + k) 0) where
  byte : (o k : ℕ) → o + k < 20 → get_or l (at + o + k) 0 ≡ get_or l' (at' + o + k) 0
  byte o k h =
      let e : at + o + k ≡ at + (o + k) = omega arith in
      let e' : at' + o + k ≡ at' + (o + k) = omega arith in
      ap (λ (n : ℕ). get_or l n 0) e ∙ same (o + k) h ∙ sym (ap (λ (n : ℕ). get_or l' n 0) e')

  four : (o : ℕ) → o + 4 ≤ 20 → four_bytes_at l (at + o) ≡ four_bytes_at l' (at' + o)
  four o h =
      let a = same o (omega arith) in
      let b = byte o 1 (omega arith) in
      let c = byte o 2 (omega arith) in
      let d = byte o 3 (omega arith) in
      omega (arith, a, b, c, d)

  eight : (o : ℕ) → o + 8 ≤ 20 → eight_bytes_at l (at + o) ≡ eight_bytes_at l' (at' + o)
  eight o h =
      let e : at + o + 4 ≡ at + (o + 4) = omega arith in
      let e' : at' + o + 4 ≡ at' + (o + 4) = omega arith in
      let q : four_bytes_at l (at + o + 4) ≡ four_bytes_at l' (at' + o + 4) = ap (four_bytes_at l) e ∙ four (o + 4) (omega arith) ∙ sym (ap (four_bytes_at l') e') in
      ap₂ (λ (a b : ℕ). a + 2 ^ 32 * b) (four o (omega arith)) q

  first : get_or l at 0 ≡ get_or l' at' 0
  first =
      let e : at ≡ at + 0 = omega arith in
      let e' : at' ≡ at' + 0 = omega arith in
      ap (λ (n : ℕ). get_or l n 0) e ∙ same 0 (omega arith) ∙ sym (ap (λ (n : ℕ). get_or l' n 0) e')

  arc_same : arc_at l at ≡ arc_at l' at'
  unfolding arc_at
  arc_same = rw (first, same 1 (omega arith), same 2 (omega arith), same 3 (omega arith), eight 4 (omega arith), eight 12 (omega arith))

-- the arcs from two places are those of the same bytes
arcs_same : (l l' : List ℕ) (n at at' : ℕ) → ((k : ℕ) → get_or l (at + k) 0 ≡ get_or l' (at' + k) 0) → arcs_at l at n ≡ arcs_at l' at' n
unfolding arcs_at
arcs_same l l' zero at at' same = refl
arcs_same l l' (suc n) at at' same = ap₂ (λ (a : Arc) (arcs : List Arc). a ∷ arcs) (arc_same l l' at at' (λ k h. same k)) (arcs_same l l' n (at + 20) (at' + 20) further)
  where
    further : (k : ℕ) → get_or l (at + 20 + k) 0 ≡ get_or l' (at' + 20 + k) 0
    further k =
        let e : at + 20 + k ≡ at + (20 + k) = omega arith in
        let e' : at' + 20 + k ≡ at' + (20 + k) = omega arith in
        ap (λ (n : ℕ). get_or l n 0) e ∙ same (20 + k) ∙ sym (ap (λ (n : ℕ). get_or l' n 0) e')

-- without the 20 bytes of arc j
arcs_without : (l l' : List ℕ) (j n at : ℕ) → j ≤ n → ((k : ℕ) → k < 20 * j → get_or l' (at + k) 0 ≡ get_or l (at + k) 0) → ((k : ℕ) → get_or l' (at + 20 * j + k) 0 ≡ get_or l (at + 20 * j + 20 + k) 0)
    → arcs_at l' at n ≡ without j (arcs_at l at (suc n))
unfolding arcs_at without
arcs_without l l' zero n at h near far = arcs_same l' l n at (at + 20) from
  where
    from : (k : ℕ) → get_or l' (at + k) 0 ≡ get_or l (at + 20 + k) 0
    from k =
        let e : at + k ≡ at + 20 * 0 + k = omega arith in
        let e' : at + 20 + k ≡ at + 20 * 0 + 20 + k = omega arith in
        ap (λ (n : ℕ). get_or l' n 0) e ∙ far k ∙ sym (ap (λ (n : ℕ). get_or l n 0) e')
arcs_without l l' (suc j) zero at h near far = absurd (omega arith)
arcs_without l l' (suc j) (suc n) at h near far =
    ap₂ (λ (a : Arc) (arcs : List Arc). a ∷ arcs) (arc_same l' l at at (λ k q. near k (omega arith))) (arcs_without l l' j n (at + 20) (omega arith) nearer farther)
  where
    nearer : (k : ℕ) → k < 20 * j → get_or l' (at + 20 + k) 0 ≡ get_or l (at + 20 + k) 0
    nearer k q = let e : at + 20 + k ≡ at + (20 + k) = omega arith in rw e (near (20 + k) (omega arith))

    farther : (k : ℕ) → get_or l' (at + 20 + 20 * j + k) 0 ≡ get_or l (at + 20 + 20 * j + 20 + k) 0
    farther k =
        let e : at + 20 + 20 * j + k ≡ at + 20 * suc j + k = omega arith in
        let e' : at + 20 + 20 * j + 20 + k ≡ at + 20 * suc j + 20 + k = omega arith in
        ap (λ (n : ℕ). get_or l' n 0) e ∙ far k ∙ sym (ap (λ (n : ℕ). get_or l n 0) e')

-- ---- a part

module _ (part : List ℕ) (j : ℕ) (shape : Shaped part) (has : j < arc_count part) where
  abbrev Q : ℕ
  Q = state_count part

  abbrev at : ℕ
  at = arc_place part j

  -- the bytes that are left, before the count of arcs is set
  abbrev left_bytes : List ℕ
  left_bytes = take at part ++ drop (at + 20) part

  front : length (take at part) ≡ at
  front = length-take-le at part (omega (arith, shape))

  length_left : length left_bytes ≡ 2 + Q + 20 * (arc_count part - 1)
  length_left = length-append (take at part) (drop (at + 20) part) ∙ omega (arith, front, length-drop (at + 20) part, shape)

  trimmed_length : length (part_without j part) ≡ 2 + Q + 20 * (arc_count part - 1)
  unfolding part_without
  trimmed_length = length-set left_bytes 1 (arc_count part - 1) ∙ length_left

  -- the bytes before the arc but for the count, and those behind it
  before_arc : (k : ℕ) → k < at → (k ≡ 1 → ⊥) → get_or (part_without j part) k 0 ≡ get_or part k 0
  unfolding part_without
  before_arc k h n =
      get_or-set_other left_bytes 1 k (arc_count part - 1) 0 n
      ∙ List·getD-append (take at part) (drop (at + 20) part) 0 k (omega (arith, front))
      ∙ get_or-take at part k 0 h

  behind_arc : (k : ℕ) → get_or (part_without j part) (at + k) 0 ≡ get_or part (at + 20 + k) 0
  unfolding part_without
  behind_arc k =
      get_or-set_other left_bytes 1 (at + k) (arc_count part - 1) 0 (omega arith)
      ∙ ap (λ (n : ℕ). get_or left_bytes (n + k) 0) (sym front)
      ∙ get_or-append-add (take at part) (drop (at + 20) part) k 0
      ∙ get_or-drop (at + 20) part k 0

  pub same_state_count : state_count (part_without j part) ≡ state_count part
  same_state_count = before_arc 0 (omega arith) (λ e. omega arith)

  one_arc_fewer : arc_count (part_without j part) ≡ arc_count part - 1
  unfolding part_without
  one_arc_fewer = get_or-set_same left_bytes 1 (arc_count part - 1) 0 (omega (arith, length_left, shape))

  same_state_bytes : state_bytes (part_without j part) ≡ state_bytes part
  unfolding part_without
  same_state_bytes =
      ap (λ (q : ℕ). slice 2 (2 + q) (part_without j part)) same_state_count
      ∙ ap (drop 2) (take-set-lt (2 + Q) left_bytes 1 (arc_count part - 1) (omega arith))
      ∙ drop-set-lt 2 (take (2 + Q) left_bytes) 1 (arc_count part - 1) (omega arith)
      ∙ ap (drop 2) (take-append-le (2 + Q) (take at part) (drop (at + 20) part) (omega (arith, front)) ∙ take-take (2 + Q) at part (omega arith))

  arcs_left : arcs_of (part_without j part) ≡ without j (arcs_of part)
  arcs_left =
      ap₂ (λ (q n : ℕ). arcs_at (part_without j part) (2 + q) n) same_state_count one_arc_fewer
      ∙ arcs_without part (part_without j part) j (arc_count part - 1) (2 + Q) (omega arith) (λ k h. before_arc (2 + Q + k) (omega arith) (λ e. omega arith)) behind_arc
      ∙ ap (λ (n : ℕ). without j (arcs_at part (2 + Q) n)) one_more
    where
      one_more : suc (arc_count part - 1) ≡ arc_count part
      one_more = omega arith

  -- its machine lacks the arc, and nothing else
  pub trimmed_machine : machine_of (part_without j part) ≡ machine_without j (machine_of part)
  unfolding machine_of
  trimmed_machine = ap₂ (λ (bytes : List ℕ) (arcs : List Arc). record { endings = map ending_byte bytes; arcs = arcs }) same_state_bytes arcs_left

  -- and it is accepted
  pub trimmed_part : (S : ℕ) → part_refusal S part ≡ 0 → part_refusal S (part_without j part) ≡ 0
  unfolding part_refusal shaped
  trimmed_part S ok =
      let a = accepted S part ok in
      let l = part_without j part in
      let states = ap (all_of (λ b. leb b 16)) same_state_bytes ∙ a.states in
      let arcs = ap₂ (λ (q : ℕ) (left : List Arc). all_of (sound_arc S q) left) same_state_count arcs_left ∙ all_without (sound_arc S Q) j (arcs_of part) a.arcs in
      let clashes = ap (pairwise clash_free) arcs_left ∙ pairwise_without clash_free j (arcs_of part) a.clashes in
      rw (
        le-leb 2 (length l) (omega (arith, trimmed_length)),
        le-leb 1 (state_count l) (omega (arith, same_state_count, shape)),
        le-leb (state_count l) 32 (omega (arith, same_state_count, shape)),
        eq-eqb (length l) (2 + state_count l + 20 * arc_count l) (omega (arith, trimmed_length, same_state_count, one_arc_fewer)),
        states,
        arcs,
        clashes,
      )

  -- of bytes, if the part is
  pub trimmed_bytes : Bytes part → Bytes (part_without j part)
  trimmed_bytes b k = go (ℕ_discrete k 1)
    where
      go : Dec (k ≡ 1) → get_or (part_without j part) k 0 < 256
      go (yes e) = let n : get_or (part_without j part) k 0 ≡ arc_count part - 1 = rw e one_arc_fewer in omega (arith, n, b 1)
      go (no n) = omega (arith, other n (dec_lt k at))
        where
          other : (k ≡ 1 → ⊥) → Dec (k < at) → get_or (part_without j part) k 0 < 256
          other n (yes h) = omega (arith, before_arc k h n, b k)
          other n (no h) =
              let e : k ≡ at + (k - at) = omega arith in
              let q = ap (λ (n : ℕ). get_or (part_without j part) n 0) e ∙ behind_arc (k - at) in
              omega (arith, q, b (at + 20 + (k - at)))
