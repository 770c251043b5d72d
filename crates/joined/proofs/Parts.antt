-- Two parts that may be joined: their state bytes and arcs, and what fits. Assumes nothing.
use Rattle.std.specs.Prelude.{◌≡◌, ◌&&◌, ◌∷◌, ◌++◌, ◌+◌, ◌*◌, ◌<◌, ◌≤◌}
use Rattle.basics.proofs.Words.{refl, ap, ap₂, sym, subst, ◌∙◌, true, false, List, [], map, ℕ, zero, suc, arith, length, get_or, take, set, length-append, length-set, eqb, leb, get_or-drop, get_or-take, length-slice, suc-mul, mul-le-mul_right, all_of, leb-true, ne_eqb, left, right, all_at}
use Rattle.machine.specs.declared.Arc.{Arc}
use Rattle.machine.specs.Machine.{state_count_of}
use Rattle.machine.specs.Part.{state_count, arc_count, state_bytes, ending_byte, arcs_of, machine_of, shaped, sound_arc, sound_states}
use Rattle.machine.specs.Accepted.{Accepted, accepted, shape_facts, state_count_lem, sound_facts}
use Rattle.machine.specs.Laws.Arcs.{arcs_count}
use Rattle.joined.specs.JoinedMachine.{joined_state, joined_kind, joined_arcs, crossed, joined_machine, ends_free, markless}
use Rattle.joined.specs.MachineBytes.{joined_part}
use Rattle.joined.specs.Writing.{placed, joined_byte, shared_bytes, rows_bytes, ArcsFit, RowFits, PartsJoin}
use Rattle.joined.specs.Laws.Crossed.{crossed_length}
use Rattle.joined.specs.Laws.Crossed.{joined_states}
use Rattle.joined.specs.Laws.Writing.{bytes_length}
use Rattle.joined.specs.Laws.Placed.{placed_next, placed_step, placed_whole}
use Rattle.joined.specs.Laws.Writing.{part_bytes}

abbrev pub no_arc : Arc
no_arc = record { from = 0; to = 0; marks = 0; kind = 0; inputs = 0; outputs = 0 }

-- the kind of two arcs
pub second_kind : (k l : ℕ) → k ≡ 0 → l ≡ joined_kind k l
second_kind k l e = rw e

pub first_kind : (k l : ℕ) → (k ≡ 0 → ⊥) → k ≡ joined_kind k l
first_kind zero l n = absurd (n refl)
first_kind (suc k) l n = refl

-- ---- one part

pub arcs_length : (part : List ℕ) → length (arcs_of part) ≡ arc_count part
arcs_length part = arcs_count part (2 + state_count part) (arc_count part)

pub states_length : (part : List ℕ) → shaped part ≡ true → length (state_bytes part) ≡ state_count part
states_length part t = length-slice 2 (2 + state_count part) part (omega (arith, shape_facts part t)) ∙ omega arith

pub state_byte_at : (part : List ℕ) (s : ℕ) → s < state_count part → get_or part (2 + s) 0 ≡ get_or (state_bytes part) s 0
state_byte_at part s h = sym (get_or-drop 2 (take (2 + state_count part) part) s 0 ∙ get_or-take (2 + state_count part) part (2 + s) 0 (omega (arith, h)))

pub state_byte_few : (part : List ℕ) → shaped part ≡ true → sound_states part ≡ true → (s : ℕ) → s < state_count part → get_or (state_bytes part) s 0 ≤ 16
state_byte_few part t states s h = leb-true (get_or (state_bytes part) s 0) 16 (all_at (λ b. leb b 16) (state_bytes part) 0 states s (omega (arith, states_length part t, h)))

-- what a state byte says of ending marks
pub costs_marks : (b : ℕ) → 1 < b → ends_free (ending_byte b) ≡ false
costs_marks zero h = absurd (omega (arith, h))
costs_marks (suc m) h = ne_eqb m 0 (omega (arith, h))

pub costs_none : (b : ℕ) → b ≤ 1 → ends_free (ending_byte b) ≡ true
costs_none zero h = refl
costs_none (suc zero) h = refl
costs_none (suc (suc m)) h = absurd (omega (arith, h))

pub no_marks : (part : List ℕ) → (all_of (λ a. eqb a.marks 0) (arcs_of part) && all_of (λ b. ends_free (ending_byte b)) (state_bytes part)) ≡ markless (machine_of part)
unfolding markless machine_of all_of
no_marks part = ap (λ b. all_of (λ a. eqb a.marks 0) (arcs_of part) && b) (go (state_bytes part))
  where
    go : (bytes : List ℕ) → all_of (λ b. ends_free (ending_byte b)) bytes ≡ all_of ends_free (map ending_byte bytes)
    go [] = refl
    go (b ∷ bytes) = ap (λ c. ends_free (ending_byte b) && c) (go bytes)

-- ---- two parts

module _ (p q : List ℕ) (h : PartsJoin p q) where
  pub first_accepted : Accepted h.symbols p
  first_accepted = accepted h.symbols p h.first_accepted

  pub second_accepted : Accepted h.symbols q
  second_accepted = accepted h.symbols q h.second_accepted

  pub states_are : state_count_of (joined_machine (machine_of p) (machine_of q)) ≡ state_count p * state_count q
  states_are =
      joined_states (machine_of p) (machine_of q)
      ∙ ap (λ n. n * state_count_of (machine_of q)) (state_count_lem p first_accepted.shape)
      ∙ ap (λ n. state_count p * n) (state_count_lem q second_accepted.shape)

  pub arcs_are : length (joined_machine (machine_of p) (machine_of q)).arcs ≡ length (joined_arcs (state_count q) (arcs_of p) (arcs_of q))
  unfolding joined_machine machine_of
  arcs_are = ap (λ n. length (joined_arcs n (arcs_of p) (arcs_of q))) (state_count_lem q second_accepted.shape)

  pub few_states_lem : state_count p * state_count q ≤ 32
  few_states_lem =
      let m = joined_machine (machine_of p) (machine_of q) in
      omega (arith, states_are, leb-true (state_count_of m) 32 (left (leb (state_count_of m) 32) (leb (length m.arcs) 255) h.fits))

  pub few_arcs : length (joined_arcs (state_count q) (arcs_of p) (arcs_of q)) ≤ 255
  few_arcs =
      let m = joined_machine (machine_of p) (machine_of q) in
      omega (arith, arcs_are, leb-true (length m.arcs) 255 (right (leb (state_count_of m) 32) (leb (length m.arcs) 255) h.fits))

  pub joined_length : length (joined_part p q) ≡ 2 + state_count p * state_count q + 20 * length (joined_arcs (state_count q) (arcs_of p) (arcs_of q))
  joined_length = bytes_length (joined_machine (machine_of p) (machine_of q)) ∙ omega (arith, states_are, arcs_are)

  pub endings_length : length (crossed joined_byte (state_bytes p) (state_bytes q)) ≡ state_count p * state_count q
  endings_length =
      crossed_length joined_byte (state_bytes p) (state_bytes q)
      ∙ ap (λ n. n * length (state_bytes q)) (states_length p first_accepted.shape)
      ∙ ap (λ n. state_count p * n) (states_length q second_accepted.shape)

  -- an arc of each
  state_fits : (s t : ℕ) → s < state_count p → t < state_count q → joined_state (state_count q) s t < 256
  state_fits s t hs ht =
      let m : suc s * state_count q ≤ state_count p * state_count q = mul-le-mul_right (state_count q) hs in
      omega (arith, suc-mul s (state_count q), m, few_states_lem, ht)

  pub row_fits : (i : ℕ) → i < arc_count p → (a : Arc) → ((d : Arc) → get_or (arcs_of p) i d ≡ a) → RowFits q a
  unfolding markless machine_of
  row_fits i hi a is = record { shape = second_accepted.shape; each = λ k d hk. fits k d hk }
    where
      first_sound : sound_arc h.symbols (state_count p) (get_or (arcs_of p) i no_arc) ≡ true
      first_sound = all_at (sound_arc h.symbols (state_count p)) (arcs_of p) no_arc first_accepted.arcs i (omega (arith, hi, arcs_length p))

      fits : (k : ℕ) (d : Arc) → k < arc_count q → ArcsFit (state_count q) a (get_or (arcs_of q) k d)
      fits k d hk =
          let b = get_or (arcs_of q) k d in
          let f = sound_facts h.symbols (state_count p) a (ap (sound_arc h.symbols (state_count p)) (sym (is no_arc)) ∙ first_sound) in
          let g = sound_facts h.symbols (state_count q) b (all_at (sound_arc h.symbols (state_count q)) (arcs_of q) d second_accepted.arcs k (omega (arith, hk, arcs_length q))) in
          record { from = state_fits a.from b.from f.from g.from; to = state_fits a.to b.to f.to g.to; marks = omega (arith, f.marks, g.marks) }

  -- how long what is written is
  pub rows_length : 2 + length (crossed joined_byte (state_bytes p) (state_bytes q)) + length (rows_bytes p q) ≡ length (joined_part p q)
  rows_length = sym (ap length (part_bytes p q second_accepted.shape) ∙ omega (arith, length-append (crossed joined_byte (state_bytes p) (state_bytes q)) (rows_bytes p q)))

-- an arc with one of a row
pub shared_ready : (second : List ℕ) (arc other : Arc) (states i next n : ℕ) → RowFits second arc → states ≡ state_count second → i < arc_count second → ((d : Arc) → get_or (arcs_of second) i d ≡ other)
    → next + length (shared_bytes (state_count second) arc (get_or (arcs_of second) i no_arc)) ≤ n
    → (states ≤ 32) × ArcsFit states arc other × (next + length (shared_bytes states arc other) ≤ n)
shared_ready second arc other states i next n f e h is room =
    let fit : ArcsFit (state_count second) arc other = subst (λ (b : Arc). ArcsFit (state_count second) arc b) (is no_arc) (f.each i no_arc h) in
    let b : shared_bytes (state_count second) arc (get_or (arcs_of second) i no_arc) ≡ shared_bytes states arc other = ap₂ (λ (k : ℕ) (x : Arc). shared_bytes k arc x) (sym e) (is no_arc) in
    (omega (arith, e, shape_facts second f.shape), subst (λ (k : ℕ). ArcsFit k arc other) (sym e) fit, omega (arith, room, ap length b))

-- the joined part, written
pub joined_placed : (t t1 t2 : List ℕ) (n m : ℕ) (endings rows part : List ℕ) → part ≡ n ∷ m ∷ (endings ++ rows) → length t ≡ length part
    → t1 ≡ placed 2 endings (set (set t 0 n) 1 m) → t2 ≡ placed (2 + length endings) rows t1 → t2 ≡ part
joined_placed t t1 t2 n m endings rows part e size e1 e2 =
    let s1 = set t 0 n in
    let s2 = set s1 1 m in
    let long : length t ≡ 2 + (length endings + length rows) = size ∙ ap length e ∙ omega (arith, length-append endings rows) in
    let l1 = length-set t 0 n in
    let l2 = length-set s1 1 m in
    e2
    ∙ ap (placed (2 + length endings) rows) e1
    ∙ placed_next 2 endings rows s2 (omega (arith, long, l1, l2))
    ∙ placed_step 1 m (endings ++ rows) s1 (omega (arith, long, l1))
    ∙ placed_step 0 n (m ∷ (endings ++ rows)) t (omega (arith, long))
    ∙ ap (λ (l : List ℕ). placed 0 l t) (sym e)
    ∙ placed_whole part t size
