-- The answers of reading and packing by the number of their refusal. Assumes nothing.
use Rattle.std.specs.Prelude.{◌≡◌, ◌++◌, ◌+◌, ◌*◌, ◌<◌}
use Rattle.basics.specs.Words.{ap, ap₂, sym, ◌∙◌, List, ℕ, zero, suc, arith, length, take, drop, take_at, drop_at, drop-drop}
use Rattle.layout.specs.Layout.{offset_of, length_of}
use Rattle.card.specs.declared.PartPlace.{PartPlace}
use Rattle.card.specs.Reading.{reading_refusal, reading}
use Rattle.card.specs.Packing.{table, packed, packing_refusal, packing, packed_target}
use Rattle.card.specs.Laws.Packed.{length_table, packed_length}

-- reading
pub read_refused : (card : List ℕ) (i n : ℕ) → reading_refusal card i ≡ n → 0 < n → reading card i ≡ record { number = n; offset = 0; length = 0 }
unfolding reading
read_refused card i zero e h = absurd (omega arith)
read_refused card i (suc n) e h = rw e

pub read_accepted : (card : List ℕ) (i : ℕ) → reading_refusal card i ≡ 0 → reading card i ≡ record { number = 0; offset = offset_of card i; length = length_of card i }
unfolding reading
read_accepted card i e = rw e

-- the place of a part, by its number as it was widened
pub read_placed : (card : List ℕ) (i j offset size : ℕ) → reading_refusal card i ≡ 0 → j ≡ i → offset ≡ offset_of card j → size ≡ length_of card j → record { number = 0; offset = offset; length = size } ≡ reading card i
read_placed card i j offset size e w o z =
    let p : ℕ → ℕ → PartPlace = λ x y. record { number = 0; offset = x; length = y } in
    ap₂ p (o ∙ ap (offset_of card) w) (z ∙ ap (length_of card) w) ∙ sym (read_accepted card i e)

-- packing
module _ (S : ℕ) (lengths parts target : List ℕ) where
  pub pack_refused : (n : ℕ) → packing_refusal S lengths parts (length target) ≡ n → 0 < n → packing S lengths parts target ≡ record { number = n; length = 0 }
  unfolding packing
  pack_refused zero e h = absurd (omega arith)
  pack_refused (suc n) e h = rw e

  pub target_kept : (n : ℕ) → packing_refusal S lengths parts (length target) ≡ n → 0 < n → packed_target S lengths parts target ≡ target
  unfolding packed_target
  target_kept zero e h = absurd (omega arith)
  target_kept (suc n) e h = rw e

  pub pack_accepted : packing_refusal S lengths parts (length target) ≡ 0 → packing S lengths parts target ≡ record { number = 0; length = 2 + 4 * length lengths + length parts }
  unfolding packing
  pack_accepted e = rw (e, packed_length S lengths parts)

  -- the table written, then the parts
  pub target_packed : (t1 t2 : List ℕ) → packing_refusal S lengths parts (length target) ≡ 0
      → t1 ≡ table S lengths ++ drop (2 + 4 * length lengths) target
      → t2 ≡ take (2 + 4 * length lengths) t1 ++ parts ++ drop (2 + 4 * length lengths + length parts) t1
      → t2 ≡ packed_target S lengths parts target
  unfolding packed_target packed
  target_packed t1 t2 e f g =
      let n = 2 + 4 * length lengths in
      let rest = drop n target in
      let k = length_table S lengths in
      let a : take n t1 ≡ table S lengths = ap (λ (l : List ℕ). take n l) f ∙ take_at (table S lengths) rest n k in
      let b : drop n t1 ≡ rest = ap (λ (l : List ℕ). drop n l) f ∙ drop_at (table S lengths) rest n k in
      let c : drop (n + length parts) t1 ≡ drop (n + length parts) target =
      sym (drop-drop (length parts) n t1) ∙ ap (λ (l : List ℕ). drop (length parts) l) b ∙ drop-drop (length parts) n target in
      g
      ∙ ap (λ (l : List ℕ). l ++ parts ++ drop (n + length parts) t1) a
      ∙ ap (λ (l : List ℕ). table S lengths ++ parts ++ l) c
      ∙ sym (rw e (ap (λ (m : ℕ). table S lengths ++ parts ++ drop m target) (packed_length S lengths parts)))
