-- A packed card read back. Assumes nothing.
use Rattle.std.specs.Prelude.{◌≡◌, ◌∷◌, ◌++◌, ◌+◌, ◌*◌, ◌<◌, ◌≤◌}
use Rattle.basics.specs.Words.{refl, ap, sym, ◌∙◌, List, [], map, ℕ, zero, suc, arith, length, get_or, take, drop, take-suc, take-length, drop-append-add, numbers_below}
use Rattle.layout.specs.Layout.{offset_of, length_of, due_offset, part_of, parts_in}
use Rattle.card.specs.Layout.{machine_count, symbol_count, parts_of}
use Rattle.card.specs.Packing.{total, split, table, packed}
use Rattle.card.specs.Laws.Search.{map_snoc}
use Rattle.layout.specs.Laws.Parts.{total_next, split_snoc}
use Rattle.layout.specs.Laws.Packed.{packed_table, packed_place}
pub use Rattle.layout.specs.Laws.Packed.{length_table, packed_length}
use Rattle.layout.specs.LaidOut.{LaidOut}

module _ (S : ℕ) (lengths bytes : List ℕ) where
  pub packed_machines : machine_count (packed S lengths bytes) ≡ length lengths
  unfolding packed
  packed_machines = refl

  pub packed_symbols : symbol_count (packed S lengths bytes) ≡ S
  unfolding packed
  packed_symbols = refl

  -- what stands behind the table
  pub packed_bytes : (n : ℕ) → drop (2 + 4 * length lengths + n) (packed S lengths bytes) ≡ drop n bytes
  packed_bytes n =
      ap (λ (k : ℕ). drop (k + n) (packed S lengths bytes)) (sym (length_table S lengths))
      ∙ ap (λ (l : List ℕ). drop (length (table S lengths) + n) l) (packed_table S lengths bytes)
      ∙ drop-append-add (table S lengths) bytes n

  pub packed_offset : (i : ℕ) → i < length lengths → offset_of (packed S lengths bytes) i ≡ 2 + 4 * length lengths + total (take i lengths)
  packed_offset i h = omega (arith, packed_place S lengths bytes i h)

  pub packed_length_of : (i : ℕ) → i < length lengths → length_of (packed S lengths bytes) i ≡ get_or lengths i 0
  packed_length_of i h =
      let e : 4 + 4 * i ≡ 2 + 4 * i + 2 = omega arith in
      let f : 4 + 4 * i + 1 ≡ 2 + 4 * i + 3 = omega arith in
      rw (f, e) (omega (arith, packed_place S lengths bytes i h))

  pub packed_part : (i : ℕ) → i < length lengths → part_of (packed S lengths bytes) i ≡ take (get_or lengths i 0) (drop (total (take i lengths)) bytes)
  packed_part i h = rw (packed_offset i h, packed_length_of i h, packed_bytes (total (take i lengths)))

  packed_due : (i : ℕ) → i ≤ length lengths → due_offset (length lengths) (packed S lengths bytes) i ≡ 2 + 4 * length lengths + total (take i lengths)
  unfolding due_offset total
  packed_due zero h = omega arith
  packed_due (suc i) h = omega (arith, packed_offset i (omega arith), packed_length_of i (omega arith), total_next lengths i (omega arith))

  pub packed_laid_out : total lengths ≡ length bytes → LaidOut (length lengths) (packed S lengths bytes)
  packed_laid_out e =
      record {
        table = omega (arith, packed_length S lengths bytes);
        offsets = λ i h. packed_offset i h ∙ sym (packed_due i (omega arith));
        end = packed_due (length lengths) (omega arith) ∙ rw (take-length lengths, e) (sym (packed_length S lengths bytes));
      }

  first_packed : (n : ℕ) → n ≤ length lengths → map (part_of (packed S lengths bytes)) (numbers_below n) ≡ split (take n lengths) bytes
  unfolding numbers_below split
  first_packed zero h = refl
  first_packed (suc n) h =
      map_snoc (part_of (packed S lengths bytes)) (numbers_below n) n
      ∙ ap (λ (ps : List (List ℕ)). ps ++ (part_of (packed S lengths bytes) n ∷ [])) (first_packed n (omega arith))
      ∙ ap (λ (p : List ℕ). split (take n lengths) bytes ++ (p ∷ [])) (packed_part n (omega arith))
      ∙ sym (ap (λ (ns : List ℕ). split ns bytes) (take-suc lengths n 0 (omega arith)) ∙ split_snoc (take n lengths) (get_or lengths n 0) bytes)

  -- the parts of the packed card are the parts that were packed
  pub packed_parts : parts_of (packed S lengths bytes) ≡ split lengths bytes
  unfolding parts_of parts_in
  packed_parts = rw packed_machines (first_packed (length lengths) (omega arith) ∙ ap (λ (ns : List ℕ). split ns bytes) (take-length lengths))
