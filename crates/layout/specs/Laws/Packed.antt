-- The table of a card read back. Assumes nothing.
use Rattle.std.specs.Prelude.{◌≡◌, ◌∷◌, ◌++◌, ◌+◌, ◌*◌, ◌<◌}
use Rattle.basics.specs.Words.{refl, ap, ◌∙◌, List, ℕ, suc, arith, length, get_or, take, length-append}
use Rattle.layout.specs.Packing.{total, places, table, packed}
use Rattle.layout.specs.Laws.Places.{length_places, PlaceAt, place_at}

pub length_table : (S : ℕ) (lengths : List ℕ) → length (table S lengths) ≡ 2 + 4 * length lengths
length_table S lengths = omega (arith, length_places (2 + 4 * length lengths) lengths)

module _ (S : ℕ) (lengths bytes : List ℕ) where
  pub packed_table : packed S lengths bytes ≡ table S lengths ++ bytes
  unfolding packed
  packed_table = refl

  pub packed_length : length (packed S lengths bytes) ≡ 2 + 4 * length lengths + length bytes
  packed_length = ap length packed_table ∙ length-append (table S lengths) bytes ∙ ap (λ (n : ℕ). n + length bytes) (length_table S lengths)

  -- part i's place, its offset and its length
  pub packed_place : (i : ℕ) → i < length lengths → PlaceAt (packed S lengths bytes) (2 + 4 * i) (2 + 4 * length lengths + total (take i lengths)) (get_or lengths i 0)
  unfolding packed
  packed_place i h =
      let l = places (2 + 4 * length lengths) lengths ++ bytes in
      let p = place_at bytes (2 + 4 * length lengths) lengths i h in
      let past : (n m : ℕ) → n ≡ suc (suc m) → get_or (length lengths ∷ S ∷ l) n 0 ≡ get_or l m 0 = λ n m e. rw e in
      record {
        offset_low = past (2 + 4 * i) (4 * i) (omega arith) ∙ p.offset_low;
        offset_high = past (2 + 4 * i + 1) (4 * i + 1) (omega arith) ∙ p.offset_high;
        length_low = past (2 + 4 * i + 2) (4 * i + 2) (omega arith) ∙ p.length_low;
        length_high = past (2 + 4 * i + 3) (4 * i + 3) (omega arith) ∙ p.length_high;
      }
