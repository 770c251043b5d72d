-- What a layout promises: each part lies within the bytes, behind the one before it. Assumes nothing.
use Rattle.std.specs.Prelude.{◌≡◌, ◌&&◌, ◌+◌, ◌*◌, ◌-◌, ◌<◌, ◌≤◌}
use Rattle.basics.proofs.Words.{ap, ◌∙◌, true, List, ℕ, zero, suc, arith, length, get_or, drop, length-drop, length-map, eqb, leb, length-take-le, every_below, numbers_below, left, right, both, map_at, every_at, each_below, length_numbers, number_at}
use Rattle.std.proofs.Common.{leb-true, eqb-true, le-leb, eq-eqb}
use Rattle.layout.specs.Layout.{offset_of, length_of, due_offset, in_place, laid_out, part_of, parts_in}

-- there is room for the table, each part starts where it has to, and the last ends at the end
pub record LaidOut (n : ℕ) (bytes : List ℕ) : Type 0 where
  pub table : 2 + 4 * n ≤ length bytes
  pub offsets : (i : ℕ) → i < n → offset_of bytes i ≡ due_offset n bytes i
  pub end : due_offset n bytes n ≡ length bytes

-- the table has part i's place, and the part lies within the bytes
pub record PartWithin (bytes : List ℕ) (i : ℕ) : Type 0 where
  pub place : 6 + 4 * i ≤ length bytes
  pub part : offset_of bytes i + length_of bytes i ≤ length bytes

pub layout_told : (n : ℕ) (bytes : List ℕ) → laid_out n bytes ≡ true → LaidOut n bytes
unfolding laid_out
layout_told n bytes e =
    let a = leb (2 + 4 * n) (length bytes) in
    let b = every_below (in_place n bytes) n in
    let c = eqb (due_offset n bytes n) (length bytes) in
    let ab = left (a && b) c e in
    record {
      table = leb-true (2 + 4 * n) (length bytes) (left a b ab);
      offsets = λ i h. eqb-true (offset_of bytes i) (due_offset n bytes i) (every_at (in_place n bytes) n (right a b ab) i h);
      end = eqb-true (due_offset n bytes n) (length bytes) (right (a && b) c e);
    }

pub layout_holds : (n : ℕ) (bytes : List ℕ) → LaidOut n bytes → laid_out n bytes ≡ true
unfolding laid_out
layout_holds n bytes l =
    both (both (le-leb (2 + 4 * n) (length bytes) l.table)
    (each_below (in_place n bytes) n (λ i h. eq-eqb (offset_of bytes i) (due_offset n bytes i) (l.offsets i h))))
    (eq-eqb (due_offset n bytes n) (length bytes) l.end)

-- the parts, n of them
pub length_parts : (n : ℕ) (bytes : List ℕ) → length (parts_in n bytes) ≡ n
unfolding parts_in
length_parts n bytes = length-map (numbers_below n) (part_of bytes) ∙ length_numbers n

pub part_at : (n : ℕ) (bytes : List ℕ) (i : ℕ) → i < n → (d : List ℕ) → get_or (parts_in n bytes) i d ≡ part_of bytes i
unfolding parts_in
part_at n bytes i h d = map_at (part_of bytes) (numbers_below n) i (rw length_numbers h) d 0 ∙ ap (part_of bytes) (number_at n i 0 h)

module _ (n : ℕ) (bytes : List ℕ) (l : LaidOut n bytes) where
  -- each part starts where the one before it ends
  pub due_next : (i : ℕ) → i < n → due_offset n bytes (suc i) ≡ due_offset n bytes i + length_of bytes i
  unfolding due_offset
  due_next i h = ap (λ (m : ℕ). m + length_of bytes i) (l.offsets i h)

  due_before : (i m : ℕ) → i + m ≤ n → due_offset n bytes i ≤ due_offset n bytes (i + m)
  due_before i zero h = let e : i + 0 ≡ i = omega arith in rw e (omega arith)
  due_before i (suc m) h =
      let e : i + suc m ≡ suc (i + m) = omega arith in
      rw e (omega (arith, due_before i m (omega arith), due_next (i + m) (omega arith)))

  due_within : (i : ℕ) → i ≤ n → due_offset n bytes i ≤ length bytes
  due_within i h =
      let e : i + (n - i) ≡ n = omega arith in
      let m = rw e at (due_before i (n - i) (omega arith)) in
      omega (arith, m, l.end)

  -- each part lies within the bytes
  pub part_within : (i : ℕ) → i < n → PartWithin bytes i
  part_within i h =
      record { place = omega (arith, l.table); part = omega (arith, due_next i h, l.offsets i h, due_within (suc i) (omega arith)) }

  pub part_length : (i : ℕ) → i < n → length (part_of bytes i) ≡ length_of bytes i
  part_length i h =
      length-take-le (length_of bytes i) (drop (offset_of bytes i) bytes) (omega (arith, part_within i h, length-drop (offset_of bytes i) bytes))
