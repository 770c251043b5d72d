-- The joined part's bytes, as they are written: row by row, arc by arc. Assumes nothing.
use Rattle.std.specs.Prelude.{◌≡◌, ◌∷◌, ◌++◌, ◌+◌, ◌*◌, ◌-◌, ◌/◌, ◌%◌, ◌<◌, ◌≤◌}
use Rattle.basics.proofs.Words.{refl, sym, ap, ap₂, ◌∙◌, Bool, true, false, List, [], map, map-map, map-append, append_assoc, ℕ, zero, suc, arith, length, get_or, drop, set, length-map, length-append, length-set, those, joined, left_at, left_none, those_here, those_later}
use Rattle.machine.specs.declared.Arc.{Arc}
use Rattle.machine.specs.Machine.{Machine, state_count_of, take_one_pair}
use Rattle.machine.specs.Part.{state_bytes, ending_byte, arcs_of, machine_of, shaped}
use Rattle.machine.specs.Accepted.{state_count_lem}
use Rattle.joined.specs.JoinedMachine.{joined_arc, arcs_with, joined_arcs, both_marks, crossed, joined_machine}
use Rattle.joined.specs.MachineBytes.{little_endian, arc_bytes, state_byte, machine_bytes, joined_part}
use Rattle.joined.specs.Writing.{placed, joined_byte, shared_bytes, rows_bytes}
use Rattle.joined.specs.Laws.Placed.{placed_step, placed_next}

-- ---- a number, and an arc

pub digit_next : (n w : ℕ) → 0 < n → little_endian n w ≡ w % 256 ∷ little_endian (n - 1) (w / 256)
digit_next zero w h = absurd (omega arith)
digit_next (suc n) w h = let e : suc n - 1 ≡ n = omega arith in ap (λ k. w % 256 ∷ little_endian k (w / 256)) (sym e)

pub digits : (n w : ℕ) → length (little_endian n w) ≡ n
digits zero w = refl
digits (suc n) w = ap suc (digits n (w / 256))

pub arc_placed : (at : ℕ) (a : Arc) (t t1 t2 : List ℕ) → at + 20 ≤ length t
    → t1 ≡ placed (at + 4) (little_endian 8 a.inputs) (set (set (set (set t at a.from) (at + 1) a.to) (at + 2) a.marks) (at + 3) a.kind)
    → t2 ≡ placed (at + 12) (little_endian 8 a.outputs) t1
    → t2 ≡ placed at (arc_bytes a) t
arc_placed at a t t1 t2 h e1 e2 =
    let I = little_endian 8 a.inputs in
    let O = little_endian 8 a.outputs in
    let s1 = set t at a.from in
    let s2 = set s1 (at + 1) a.to in
    let s3 = set s2 (at + 2) a.marks in
    let s4 = set s3 (at + 3) a.kind in
    let l1 = length-set t at a.from in
    let l2 = length-set s1 (at + 1) a.to in
    let l3 = length-set s2 (at + 2) a.marks in
    let l4 = length-set s3 (at + 3) a.kind in
    let p2 : at + 1 + 1 ≡ at + 2 = omega arith in
    let p3 : at + 2 + 1 ≡ at + 3 = omega arith in
    let p4 : at + 3 + 1 ≡ at + 4 = omega arith in
    let p12 : at + 12 ≡ at + 4 + length I = omega (arith, digits 8 a.inputs) in
    e2
    ∙ ap (placed (at + 12) O) e1
    ∙ ap (λ k. placed k O (placed (at + 4) I s4)) p12
    ∙ placed_next (at + 4) I O s4 (omega (arith, h, l1, l2, l3, l4, digits 8 a.inputs))
    ∙ ap (λ k. placed k (I ++ O) s4) (sym p4)
    ∙ placed_step (at + 3) a.kind (I ++ O) s3 (omega (arith, h, l1, l2, l3))
    ∙ ap (λ k. placed k (a.kind ∷ (I ++ O)) s3) (sym p3)
    ∙ placed_step (at + 2) a.marks (a.kind ∷ (I ++ O)) s2 (omega (arith, h, l1, l2))
    ∙ ap (λ k. placed k (a.marks ∷ a.kind ∷ (I ++ O)) s2) (sym p2)
    ∙ placed_step (at + 1) a.to (a.marks ∷ a.kind ∷ (I ++ O)) s1 (omega (arith, h, l1))
    ∙ placed_step at a.from (a.to ∷ a.marks ∷ a.kind ∷ (I ++ O)) t (omega (arith, h))

-- ---- the elements that are left

module _ {A : Type 0} (xs : List A) (i : ℕ) where
  pub joined_left : {B : Type 0} (f : A → List B) (d : A) → i < length xs → joined f (drop i xs) ≡ f (get_or xs i d) ++ joined f (drop (i + 1) xs)
  unfolding joined
  joined_left f d h = ap (joined f) (left_at xs i d h)

  pub joined_end : {B : Type 0} (f : A → List B) → length xs ≤ i → joined f (drop i xs) ≡ []
  unfolding joined
  joined_end f h = ap (joined f) (left_none xs i h)

-- ---- the arcs

pub shared_taken : (Q : ℕ) (a b : Arc) → take_one_pair a b ≡ true → shared_bytes Q a b ≡ arc_bytes (joined_arc Q a b)
unfolding shared_bytes
shared_taken Q a b t = rw t

pub shared_left : (Q : ℕ) (a b : Arc) → take_one_pair a b ≡ false → shared_bytes Q a b ≡ []
unfolding shared_bytes
shared_left Q a b t = rw t

joined_append : {A B : Type 0} (f : A → List B) (xs ys : List A) → joined f (xs ++ ys) ≡ joined f xs ++ joined f ys
unfolding joined
joined_append f [] ys = refl
joined_append f (x ∷ xs) ys = ap (λ l. f x ++ l) (joined_append f xs ys) ∙ sym (append_assoc (f x) (joined f xs) (joined f ys))

row_bytes_lem : (Q : ℕ) (a : Arc) (seconds : List Arc) → joined arc_bytes (arcs_with Q seconds a) ≡ joined (shared_bytes Q a) seconds
unfolding joined those
row_bytes_lem Q a [] = refl
row_bytes_lem Q a (b ∷ seconds) = go (take_one_pair a b) refl (row_bytes_lem Q a seconds)
  where
    go : (t : Bool) → take_one_pair a b ≡ t → joined arc_bytes (arcs_with Q seconds a) ≡ joined (shared_bytes Q a) seconds → joined arc_bytes (arcs_with Q (b ∷ seconds) a) ≡ shared_bytes Q a b ++ joined (shared_bytes Q a) seconds
    go true t r =
        ap (λ (l : List Arc). joined arc_bytes (map (joined_arc Q a) l)) (those_here (take_one_pair a) b seconds t)
        ∙ ap (λ (l : List ℕ). arc_bytes (joined_arc Q a b) ++ l) r
        ∙ ap (λ (l : List ℕ). l ++ joined (shared_bytes Q a) seconds) (sym (shared_taken Q a b t))
    go false t r =
        ap (λ (l : List Arc). joined arc_bytes (map (joined_arc Q a) l)) (those_later (take_one_pair a) b seconds t)
        ∙ r
        ∙ ap (λ (l : List ℕ). l ++ joined (shared_bytes Q a) seconds) (sym (shared_left Q a b t))

rows_bytes_lem : (Q : ℕ) (firsts seconds : List Arc) → joined arc_bytes (joined_arcs Q firsts seconds) ≡ joined (λ a. joined (shared_bytes Q a) seconds) firsts
unfolding joined
rows_bytes_lem Q [] seconds = refl
rows_bytes_lem Q (a ∷ firsts) seconds =
    joined_append arc_bytes (arcs_with Q seconds a) (joined_arcs Q firsts seconds)
    ∙ ap₂ (λ (x y : List ℕ). x ++ y) (row_bytes_lem Q a seconds) (rows_bytes_lem Q firsts seconds)

-- how many there are
module _ (Q : ℕ) (a : Arc) (seconds : List Arc) (i : ℕ) (d : Arc) (h : i < length seconds) where
  pub row_one_more : take_one_pair a (get_or seconds i d) ≡ true → length (arcs_with Q (drop i seconds) a) ≡ suc (length (arcs_with Q (drop (i + 1) seconds) a))
  row_one_more t = ap (λ (l : List Arc). length (arcs_with Q l a)) (left_at seconds i d h) ∙ ap (λ (l : List Arc). length (map (joined_arc Q a) l)) (those_here (take_one_pair a) (get_or seconds i d) (drop (i + 1) seconds) t)

  pub row_no_more : take_one_pair a (get_or seconds i d) ≡ false → length (arcs_with Q (drop i seconds) a) ≡ length (arcs_with Q (drop (i + 1) seconds) a)
  row_no_more t = ap (λ (l : List Arc). length (arcs_with Q l a)) (left_at seconds i d h) ∙ ap (λ (l : List Arc). length (map (joined_arc Q a) l)) (those_later (take_one_pair a) (get_or seconds i d) (drop (i + 1) seconds) t)

pub row_end : (Q : ℕ) (a : Arc) (seconds : List Arc) (i : ℕ) → length seconds ≤ i → length (arcs_with Q (drop i seconds) a) ≡ 0
unfolding those
row_end Q a seconds i h = ap (λ (l : List Arc). length (arcs_with Q l a)) (left_none seconds i h)

pub rows_more : (Q : ℕ) (firsts seconds : List Arc) (i : ℕ) (d : Arc) → i < length firsts
    → length (joined_arcs Q (drop i firsts) seconds) ≡ length (arcs_with Q seconds (get_or firsts i d)) + length (joined_arcs Q (drop (i + 1) firsts) seconds)
rows_more Q firsts seconds i d h = ap length (joined_left firsts i (arcs_with Q seconds) d h) ∙ length-append (arcs_with Q seconds (get_or firsts i d)) (joined_arcs Q (drop (i + 1) firsts) seconds)

pub rows_end : (Q : ℕ) (firsts seconds : List Arc) (i : ℕ) → length firsts ≤ i → length (joined_arcs Q (drop i firsts) seconds) ≡ 0
rows_end Q firsts seconds i h = ap length (joined_end firsts i (arcs_with Q seconds) h)

-- ---- the state bytes

state_bytes_lem : (xs ys : List ℕ) → map state_byte (crossed both_marks (map ending_byte xs) (map ending_byte ys)) ≡ crossed joined_byte xs ys
unfolding joined
state_bytes_lem [] ys = refl
state_bytes_lem (x ∷ xs) ys =
    map-append state_byte (map (both_marks (ending_byte x)) (map ending_byte ys)) (crossed both_marks (map ending_byte xs) (map ending_byte ys))
    ∙ ap₂ (λ (a b : List ℕ). a ++ b) (ap (map state_byte) (map-map (both_marks (ending_byte x)) ending_byte ys) ∙ map-map state_byte (λ y. both_marks (ending_byte x) (ending_byte y)) ys) (state_bytes_lem xs ys)

-- ---- the part

pub part_bytes : (p q : List ℕ) → shaped q ≡ true
    → joined_part p q ≡ state_count_of (joined_machine (machine_of p) (machine_of q)) ∷ length (joined_machine (machine_of p) (machine_of q)).arcs ∷ (crossed joined_byte (state_bytes p) (state_bytes q) ++ rows_bytes p q)
unfolding machine_bytes joined_machine machine_of
part_bytes p q shape =
    let Q = state_count_of (machine_of q) in
    let n = state_count_of (joined_machine (machine_of p) (machine_of q)) in
    let m = length (joined_machine (machine_of p) (machine_of q)).arcs in
    let e : joined arc_bytes (joined_arcs Q (arcs_of p) (arcs_of q)) ≡ rows_bytes p q = rows_bytes_lem Q (arcs_of p) (arcs_of q) ∙ ap (λ k. joined (λ a. joined (shared_bytes k a) (arcs_of q)) (arcs_of p)) (state_count_lem q shape) in
    ap₂ (λ (x y : List ℕ). n ∷ m ∷ (x ++ y)) (state_bytes_lem (state_bytes p) (state_bytes q)) e

-- ---- how many bytes a machine has

arcs_length : (xs : List Arc) → length (joined arc_bytes xs) ≡ 20 * length xs
unfolding joined
arcs_length [] = refl
arcs_length (x ∷ xs) = omega (arith, arcs_length xs)

module _ (m : Machine) where
  rest_length : length (map state_byte m.endings ++ joined arc_bytes m.arcs) ≡ state_count_of m + 20 * length m.arcs
  rest_length = length-append (map state_byte m.endings) (joined arc_bytes m.arcs) ∙ (omega (arith, length-map m.endings state_byte, arcs_length m.arcs))

  pub bytes_length : length (machine_bytes m) ≡ 2 + state_count_of m + 20 * length m.arcs
  unfolding machine_bytes
  bytes_length = omega (arith, rest_length)
