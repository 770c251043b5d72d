-- Laws of a target whose front has been written. Assumes nothing.
use Rattle.std.specs.Prelude.{◌≡◌, ◌∷◌, ◌++◌, ◌+◌, ◌*◌, ◌-◌, ◌/◌, ◌%◌, ◌<◌, ◌≤◌}
use Rattle.basics.specs.Words.{refl, ap, sym, ◌∙◌, List, [], append-nil, append_assoc, ℕ, suc, arith, length, get_or, take, drop, set, length-append, length-drop, take-append-drop, drop_of_length-le, take-suc, drop-cons, set_at, append_snoc, length-take-le, take_at, drop_at, take-add, drop-drop, take_all, take-length, drop-set-lt, drop-append-add, add-one}
use borrow.Rule.Slice.PartMut.{put_mid}
use Rattle.layout.specs.Packing.{total, table, packed}
use Rattle.layout.specs.Laws.Places.{PlaceAt}
use Rattle.layout.specs.Laws.Packed.{length_table, packed_length, packed_place}

-- the first n of the bytes are written to a target
abbrev pub written : List ℕ → ℕ → List ℕ → List ℕ
written bytes n target = take n bytes ++ drop n target

module _ (bytes : List ℕ) (n : ℕ) (target : List ℕ) where
  pub written_length : n ≤ length bytes → n ≤ length target → length (written bytes n target) ≡ length target
  written_length h k =
      length-append (take n bytes) (drop n target)
      ∙ omega (arith, length-take-le n bytes h, length-drop n target)

  -- one byte more
  pub written_next : (next v : ℕ) → n < length bytes → n < length target → next ≡ n + 1 → v ≡ get_or bytes n 0 → set (written bytes n target) n v ≡ written bytes next target
  written_next next v h k f e =
      let front = take n bytes in
      ap (λ (r : List ℕ). set (front ++ r) n v) (drop-cons target n 0 k)
      ∙ set_at front (get_or target n 0) (drop (suc n) target) v n (length-take-le n bytes (omega arith))
      ∙ sym (append_snoc front v (drop (suc n) target))
      ∙ ap (λ (w : ℕ). front ++ (w ∷ []) ++ drop (suc n) target) e
      ∙ ap (λ (r : List ℕ). r ++ drop (suc n) target) (sym (take-suc bytes n 0 h))
      ∙ ap (λ (m : ℕ). written bytes m target) (sym (f ∙ add-one n))

  -- a part more, written to the target's middle from there
  pub written_part : (part : List ℕ) → n ≤ length bytes → take (length part) (drop n bytes) ≡ part
      → take n (written bytes n target) ++ (part ++ drop (length part) (drop n (written bytes n target))) ≡ written bytes (n + length part) target
  written_part part h e =
      let front = take n bytes in
      let f = length-take-le n bytes h in
      ap (λ (r : List ℕ). r ++ (part ++ drop (length part) (drop n (written bytes n target)))) (take_at front (drop n target) n f)
      ∙ ap (λ (r : List ℕ). front ++ (part ++ drop (length part) r)) (drop_at front (drop n target) n f)
      ∙ sym (append_assoc front part (drop (length part) (drop n target)))
      ∙ ap (λ (r : List ℕ). front ++ part ++ r) (drop-drop (length part) n target)
      ∙ ap (λ (r : List ℕ). r ++ drop (n + length part) target) (ap (λ (r : List ℕ). front ++ r) (sym e) ∙ sym (take-add n (length part) bytes))

-- a stretch that is as long as the bytes holds them
pub written_whole : (bytes stretch : List ℕ) → length stretch ≡ length bytes → written bytes (length bytes) stretch ≡ bytes
written_whole bytes stretch e =
    ap (λ (l : List ℕ). take (length bytes) bytes ++ l) (drop_of_length-le stretch {i = length bytes} (omega arith))
    ∙ append-nil (take (length bytes) bytes)
    ∙ take-length bytes

-- the first two bytes
pub written_two : (a b : ℕ) (target : List ℕ) → 2 ≤ length target → set (set target 0 a) 1 b ≡ a ∷ b ∷ drop 2 (set (set target 0 a) 1 b)
written_two a b [] h = absurd (omega arith)
written_two a b (x ∷ []) h = absurd (omega arith)
written_two a b (x ∷ y ∷ l) h = refl

-- a place more: the bytes of its offset and of its length
pub written_place : (bytes : List ℕ) (n next : ℕ) (target : List ℕ) (offset size : ℕ) → PlaceAt bytes n offset size → next ≡ n + 2 → n + 4 ≤ length bytes → n + 4 ≤ length target
    → set (set (set (set (written bytes n target) n (offset % 256)) (n + 1) (offset / 256)) next (size % 256)) (next + 1) (size / 256) ≡ written bytes (n + 4) target
written_place bytes n next target offset size p e h k =
    let e2 : next + 1 ≡ n + 3 = omega arith in
    let s1 = written_next bytes n target (n + 1) (offset % 256) (omega arith) (omega arith) refl (sym p.offset_low) in
    let s2 = written_next bytes (n + 1) target next (offset / 256) (omega arith) (omega arith) (omega arith) (sym p.offset_high) in
    let s3 = written_next bytes next target (next + 1) (size % 256) (omega arith) (omega arith) refl (sym (ap (λ (m : ℕ). get_or bytes m 0) e ∙ p.length_low)) in
    let s4 = written_next bytes (next + 1) target (n + 4) (size / 256) (omega arith) (omega arith) (omega arith) (sym (ap (λ (m : ℕ). get_or bytes m 0) e2 ∙ p.length_high)) in
    ap (λ (t : List ℕ). set (set (set t (n + 1) (offset / 256)) next (size % 256)) (next + 1) (size / 256)) s1
    ∙ ap (λ (t : List ℕ). set (set t next (size % 256)) (next + 1) (size / 256)) s2
    ∙ ap (λ (t : List ℕ). set t (next + 1) (size / 256)) s3
    ∙ s4

-- the places of a card: t has those of the first i parts, t2 one more
pub places_next : (S : ℕ) (lengths : List ℕ) (i offset size : ℕ) (target t t1 t2 : List ℕ) → i < length lengths → 2 + 4 * length lengths ≤ length target
    → offset ≡ 2 + 4 * length lengths + total (take i lengths) → size ≡ get_or lengths i 0
    → t ≡ written (packed S lengths []) (2 + 4 * i) target
    → t1 ≡ set (set t (2 + 4 * i) (offset % 256)) (2 + 4 * i + 1) (offset / 256)
    → t2 ≡ set (set t1 (4 + 4 * i) (size % 256)) (4 + 4 * i + 1) (size / 256)
    → t2 ≡ written (packed S lengths []) (2 + 4 * (i + 1)) target
places_next S lengths i offset size target t t1 t2 h room o z e e1 e2 =
    let bytes = packed S lengths [] in
    let n = 2 + 4 * i in
    let m = 4 + 4 * i in
    let p = packed_place S lengths [] i h in
    let q : PlaceAt bytes n offset size = rw (o, z) p in
    let f : 2 + 4 * (i + 1) ≡ n + 4 = omega arith in
    e2
    ∙ ap (λ (l : List ℕ). set (set l m (size % 256)) (m + 1) (size / 256)) (e1 ∙ ap (λ (l : List ℕ). set (set l n (offset % 256)) (n + 1) (offset / 256)) e)
    ∙ written_place bytes n m target offset size q (omega arith) (omega (arith, packed_length S lengths [])) (omega arith)
    ∙ ap (λ (k : ℕ). written bytes k target) (sym f)

-- all of them: the table stands in front
pub table_written : (S : ℕ) (lengths target : List ℕ) (a b : ℕ) →
    written (packed S lengths []) (2 + 4 * length lengths) (set (set target 0 a) 1 b) ≡ table S lengths ++ drop (2 + 4 * length lengths) target
unfolding packed
table_written S lengths target a b =
    let n = 2 + 4 * length lengths in
    ap (λ (l : List ℕ). l ++ drop n (set (set target 0 a) 1 b)) (take_at (table S lengths) [] n (length_table S lengths))
    ∙ ap (λ (l : List ℕ). table S lengths ++ l) (drop-set-lt n (set target 0 a) 1 b (omega arith) ∙ drop-set-lt n target 0 a (omega arith))

-- the parts of a card behind the first n bytes of a target: where none is written, where one more is, and where all are
module _ (n : ℕ) (parts target : List ℕ) (room : n + length parts ≤ length target) where
  front : length (take n target) ≡ n
  front = length-take-le n target (omega arith)

  pub parts_none : target ≡ written (take n target ++ parts) n target
  parts_none = sym (ap (λ (l : List ℕ). l ++ drop n target) (take_at (take n target) parts n front) ∙ take-append-drop n target)

  pub parts_next : (offset from size : ℕ) (t ys : List ℕ) → offset ≡ n + from → from + size ≤ length parts
      → t ≡ written (take n target ++ parts) offset target
      → ys ≡ take (from + size - from) (drop from parts)
      → put_mid offset (offset + size - offset) t ys ≡ written (take n target ++ parts) (offset + size) target
  parts_next offset from size t ys o h e f =
      let bytes = take n target ++ parts in
      let part = take (from + size - from) (drop from parts) in
      let b : length bytes ≡ n + length parts = length-append (take n target) parts ∙ ap (λ (k : ℕ). k + length parts) front in
      let s : from + size - from ≡ size = omega arith in
      let z : length part ≡ size =
      ap (λ (k : ℕ). length (take k (drop from parts))) s ∙ length-take-le size (drop from parts) (omega (arith, length-drop from parts)) in
      let d : drop offset bytes ≡ drop from parts = ap (λ (k : ℕ). drop k bytes) (o ∙ ap (λ (k : ℕ). k + from) (sym front)) ∙ drop-append-add (take n target) parts from in
      let p : take (length part) (drop offset bytes) ≡ part = ap (λ (l : List ℕ). take (length part) l) d ∙ ap (λ (k : ℕ). take k (drop from parts)) (z ∙ sym s) in
      let u : offset + size - offset ≡ length part = omega arith in
      ap (λ (l : List ℕ). take offset t ++ (l ++ drop (offset + size - offset) (drop offset t))) f
      ∙ ap (λ (k : ℕ). take offset t ++ (part ++ drop k (drop offset t))) u
      ∙ ap (λ (l : List ℕ). take offset l ++ (part ++ drop (length part) (drop offset l))) e
      ∙ written_part bytes offset target part (omega arith) p
      ∙ ap (λ (k : ℕ). written bytes (offset + k) target) z

  pub parts_all : written (take n target ++ parts) (n + length parts) target ≡ take n target ++ parts ++ drop (n + length parts) target
  parts_all =
      ap (λ (l : List ℕ). l ++ drop (n + length parts) target)
      (take_all (n + length parts) (take n target ++ parts) (omega (arith, length-append (take n target) parts, front)))

  pub parts_length : (k : ℕ) → k ≤ n + length parts → length (written (take n target ++ parts) k target) ≡ length target
  parts_length k h = written_length (take n target ++ parts) k target (omega (arith, length-append (take n target) parts, front)) (omega arith)
