-- A card that is laid out, put together again from its parts. Assumes nothing.
use Rattle.std.specs.Prelude.{◌≡◌, ◌∷◌, ◌++◌, ◌+◌, ◌*◌, ◌<◌, ◌≤◌}
use Rattle.basics.proofs.Words.{refl, ap, sym, ◌∙◌, List, [], map, append-nil, append_assoc, ℕ, zero, suc, arith, length, get_or, take, drop, length-map, length-drop, take-add, drop-cons, take-length, drop_at, length-take-le, ext_get_or, numbers_below, joined, map_at, length_numbers}
use Rattle.layout.specs.Layout.{Bytes, offset_of, length_of, due_offset, part_of, parts_in}
use Rattle.card.specs.Layout.{machine_count, symbol_count, parts_of}
use Rattle.card.specs.Packing.{total, split, places, packed}
use Rattle.card.specs.Laws.Search.{map_snoc, joined_snoc}
use Rattle.layout.specs.Laws.Bytes.{low_byte, high_byte}
use Rattle.card.specs.Laws.Parts.{total_snoc, joined_split, joined_total}
use Rattle.layout.specs.Laws.Places.{places_snoc}
use Rattle.layout.specs.LaidOut.{LaidOut, due_next, part_length}
use Rattle.card.specs.Laws.Layout.{length_parts, part_at}

-- the first n parts
abbrev pub first_parts : List ℕ → ℕ → List (List ℕ)
first_parts card n = map (part_of card) (numbers_below n)

first_next : (card : List ℕ) (n : ℕ) → first_parts card (suc n) ≡ first_parts card n ++ (part_of card n ∷ [])
unfolding numbers_below
first_next card n = map_snoc (part_of card) (numbers_below n) n

take_two : (l : List ℕ) → 2 ≤ length l → take 2 l ≡ get_or l 0 0 ∷ get_or l 1 0 ∷ []
take_two [] h = absurd (omega arith)
take_two (x ∷ []) h = absurd (omega arith)
take_two (x ∷ y ∷ l) h = refl

take_four : (l : List ℕ) (at next : ℕ) → next ≡ at + 2 → at + 4 ≤ length l → take 4 (drop at l) ≡ get_or l at 0 ∷ get_or l (at + 1) 0 ∷ get_or l next 0 ∷ get_or l (next + 1) 0 ∷ []
take_four l at next e h =
    let e1 : at + 1 ≡ suc at = omega arith in
    let e2 : next ≡ suc (suc at) = omega arith in
    let e3 : next + 1 ≡ suc (suc (suc at)) = omega arith in
    rw (drop-cons l at 0 (omega arith), drop-cons l (suc at) 0 (omega arith), drop-cons l (suc (suc at)) 0 (omega arith), drop-cons l (suc (suc (suc at))) 0 (omega arith), e1, e3, e2)

module _ (card : List ℕ) (l : LaidOut (machine_count card) card) where
  -- the first n parts, behind what stands before the first, are the card's front up to where the next has to start
  joined_front : (n : ℕ) → n ≤ machine_count card → take (2 + 4 * machine_count card) card ++ joined (λ part. part) (first_parts card n) ≡ take (due_offset (machine_count card) card n) card
  unfolding due_offset numbers_below joined
  joined_front zero h = append-nil (take (2 + 4 * machine_count card) card)
  joined_front (suc n) h =
      let head = take (2 + 4 * machine_count card) card in
      ap (λ (ps : List (List ℕ)). head ++ joined (λ part. part) ps) (first_next card n)
      ∙ ap (λ (bytes : List ℕ). head ++ bytes) (joined_snoc (λ part. part) (first_parts card n) (part_of card n))
      ∙ sym (append_assoc head (joined (λ part. part) (first_parts card n)) (part_of card n))
      ∙ ap (λ (bytes : List ℕ). bytes ++ part_of card n) (joined_front n (omega arith))
      ∙ ap (λ (at : ℕ). take (due_offset (machine_count card) card n) card ++ take (length_of card n) (drop at card)) (l.offsets n (omega arith))
      ∙ sym (take-add (due_offset (machine_count card) card n) (length_of card n) card)
      ∙ ap (λ (at : ℕ). take at card) (sym (due_next (machine_count card) card l n (omega arith)))

  lengths_next : (n : ℕ) → n < machine_count card → map length (first_parts card (suc n)) ≡ map length (first_parts card n) ++ (length_of card n ∷ [])
  lengths_next n h =
      ap (map length) (first_next card n)
      ∙ map_snoc length (first_parts card n) (part_of card n)
      ∙ ap (λ (m : ℕ). map length (first_parts card n) ++ (m ∷ [])) (part_length (machine_count card) card l n h)

  lengths_front : (n : ℕ) → n ≤ machine_count card → 2 + 4 * machine_count card + total (map length (first_parts card n)) ≡ due_offset (machine_count card) card n
  unfolding due_offset numbers_below total
  lengths_front zero h = omega arith
  lengths_front (suc n) h =
      let ns = map length (first_parts card n) in
      let e = ap total (lengths_next n (omega arith)) ∙ total_snoc ns (length_of card n) in
      omega (arith, e, lengths_front n (omega arith), due_next (machine_count card) card l n (omega arith))

  -- the counts and the places of the first n parts are the card's front up to the next place
  places_front : Bytes card → (n : ℕ) → n ≤ machine_count card
      → machine_count card ∷ symbol_count card ∷ places (2 + 4 * machine_count card) (map length (first_parts card n)) ≡ take (2 + 4 * n) card
  unfolding places numbers_below
  places_front b zero h = sym (take_two card (omega arith))
  places_front b (suc n) h =
      let H = 2 + 4 * machine_count card in
      let S = symbol_count card in
      let ns = map length (first_parts card n) in
      let four : List ℕ = get_or card (2 + 4 * n) 0 ∷ get_or card (2 + 4 * n + 1) 0 ∷ get_or card (4 + 4 * n) 0 ∷ get_or card (4 + 4 * n + 1) 0 ∷ [] in
      let e : H + total ns ≡ offset_of card n = lengths_front n (omega arith) ∙ sym (l.offsets n (omega arith)) in
      let p : places (H + total ns) (length_of card n ∷ []) ≡ four = rw (e, low_byte card b (2 + 4 * n), high_byte card b (2 + 4 * n), low_byte card b (4 + 4 * n), high_byte card b (4 + 4 * n)) in
      let q : 2 + 4 * suc n ≡ 2 + 4 * n + 4 = omega arith in
      ap (λ (m : List ℕ). machine_count card ∷ S ∷ places H m) (lengths_next n (omega arith))
      ∙ ap (λ (m : List ℕ). machine_count card ∷ S ∷ m) (places_snoc H ns (length_of card n) ∙ ap (λ (m : List ℕ). places H ns ++ m) p)
      ∙ ap (λ (m : List ℕ). m ++ four) (places_front b n (omega arith))
      ∙ ap (λ (m : List ℕ). take (2 + 4 * n) card ++ m) (sym (take_four card (2 + 4 * n) (4 + 4 * n) (omega arith) (omega arith)))
      ∙ sym (ap (λ (m : ℕ). take m card) q ∙ take-add (2 + 4 * n) 4 card)

  -- the card is what its parts are packed to
  pub repacked : Bytes card → packed (symbol_count card) (map length (parts_of card)) (joined (λ part. part) (parts_of card)) ≡ card
  unfolding packed parts_of parts_in
  repacked b =
      let K = machine_count card in
      let parts = first_parts card K in
      let k : length (map length parts) ≡ K = length-map parts length ∙ length-map (numbers_below K) (part_of card) ∙ length_numbers K in
      rw k
      (ap (λ (m : List ℕ). m ++ joined (λ part. part) parts) (places_front b K (omega arith))
      ∙ joined_front K (omega arith)
      ∙ ap (λ (m : ℕ). take m card) l.end
      ∙ take-length card)

  -- what stands behind the table is the parts joined
  pub parts_joined : joined (λ part. part) (parts_of card) ≡ drop (2 + 4 * machine_count card) card
  unfolding parts_of parts_in
  parts_joined =
      let K = machine_count card in
      let bytes = joined (λ part. part) (first_parts card K) in
      let e : take (2 + 4 * K) card ++ bytes ≡ card = joined_front K (omega arith) ∙ ap (λ (m : ℕ). take m card) l.end ∙ take-length card in
      sym (drop_at (take (2 + 4 * K) card) bytes (2 + 4 * K) (length-take-le (2 + 4 * K) card l.table)) ∙ ap (λ (m : List ℕ). drop (2 + 4 * K) m) e

  -- the lengths in the table are the parts' lengths
  pub table_lengths : (ns : List ℕ) → length ns ≡ machine_count card → ((i : ℕ) → i < machine_count card → get_or ns i 0 ≡ length_of card i) → ns ≡ map length (parts_of card)
  table_lengths ns e f =
      let parts = parts_of card in
      ext_get_or 0 ns (map length parts) (e ∙ sym (length-map parts length ∙ length_parts card))
      (λ i h. f i (omega arith) ∙ sym (map_at length parts i (omega (arith, length_parts card)) 0 [] ∙ ap length (part_at card i (omega arith) []) ∙ part_length (machine_count card) card l i (omega arith)))

  -- split by them, what stands behind the table is the parts
  pub table_parts : (ns : List ℕ) → ns ≡ map length (parts_of card) → split ns (drop (2 + 4 * machine_count card) card) ≡ parts_of card
  table_parts ns e = rw (e, ← parts_joined) (joined_split (parts_of card))

  pub table_total : (ns : List ℕ) → ns ≡ map length (parts_of card) → 2 + 4 * machine_count card + total ns ≡ length card
  table_total ns e =
      omega (arith, ap total e ∙ joined_total (parts_of card) ∙ ap length parts_joined ∙ length-drop (2 + 4 * machine_count card) card, l.table)
