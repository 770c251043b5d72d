-- Packing and reading undo one another. Assumes nothing.
use Rattle.std.specs.Prelude.{◌≡◌, ◌∷◌, ◌++◌, ◌+◌, ◌*◌, ◌<◌, ◌≤◌}
use Rattle.basics.specs.Words.{refl, ap, sym, ◌∙◌, List, [], map, ℕ, arith, length, get_or, take, drop, take_at, drop_at, joined}
use Rattle.std.proofs.Common.{lt-ltb, le-leb}
use Rattle.machine.specs.Part.{machine_of}
use Rattle.layout.specs.Layout.{Bytes, offset_of, length_of}
use Rattle.card.specs.Layout.{machine_count, symbol_count, counted, parts_of}
use Rattle.card.specs.Card.{machines_of, card_refusal}
use Rattle.card.specs.Reading.{reading}
use Rattle.card.specs.Packing.{split, places, packed, packing_refusal, packing, packed_target}
use Rattle.layout.specs.Laws.Bytes.{bytes_cons, bytes_append}
use Rattle.layout.specs.Laws.Places.{places_bytes}
use Rattle.card.specs.Laws.Parts.{split_lengths, split_joined}
use Rattle.layout.specs.LaidOut.{layout_holds}
use Rattle.card.specs.Laws.Layout.{counts_told, part_at, length_parts}
use Rattle.card.specs.Laws.Packed.{packed_length, packed_machines, packed_symbols, packed_parts, packed_laid_out}
use Rattle.card.specs.Laws.Repacked.{repacked}
use Rattle.card.specs.Laws.Packable.{Packable, packable, PartsPass, parts_pack}
use Rattle.card.specs.Accepted.{accepted}
use Rattle.card.specs.Laws.Checked.{parts_small}

-- For every accepted packing input, the packed card is accepted; its parts are the parts packed, and its machines the machines packed;
-- reading part i gives part i; packing answers the card's length, the target's front is that card, and its other bytes stay.
pub record ReadsBack (S : ℕ) (lengths bytes target card : List ℕ) : Type 0 where
  pub accepts : card_refusal card ≡ 0
  pub symbols : symbol_count card ≡ S
  pub parts : parts_of card ≡ split lengths bytes
  pub part_lengths : map length (parts_of card) ≡ lengths
  pub part_bytes : joined (λ part. part) (parts_of card) ≡ bytes
  pub machines : machines_of card ≡ map machine_of (split lengths bytes)
  pub reads : (i : ℕ) → i < length lengths → (reading card i).number ≡ 0
  pub part : (i : ℕ) → i < length lengths → take (reading card i).length (drop (reading card i).offset card) ≡ get_or (split lengths bytes) i []
  pub size : (packing S lengths bytes target).length ≡ length card
  pub front : take (length card) (packed_target S lengths bytes target) ≡ card
  pub tail : drop (length card) (packed_target S lengths bytes target) ≡ drop (length card) target

packed_accepted : (S : ℕ) (lengths bytes : List ℕ) (room : ℕ) → Packable S lengths bytes room → card_refusal (packed S lengths bytes) ≡ 0
unfolding card_refusal counted
packed_accepted S lengths bytes room p =
    rw (
      packed_parts S lengths bytes,
      packed_symbols S lengths bytes,
      packed_machines S lengths bytes,
      p.parts,
      p.states,
      p.counts,
      layout_holds (length lengths) (packed S lengths bytes) (packed_laid_out S lengths bytes p.sum),
      le-leb 2 (length (packed S lengths bytes)) (omega (arith, packed_length S lengths bytes)),
    )

-- reading an accepted card
reading_accepted : (card : List ℕ) (i : ℕ) → card_refusal card ≡ 0 → i < machine_count card → reading card i ≡ record { number = 0; offset = offset_of card i; length = length_of card i }
unfolding reading
reading_accepted card i e h = rw (e, lt-ltb i (machine_count card) h)

pub packed_reads_back : (S : ℕ) (lengths bytes target : List ℕ) → packing_refusal S lengths bytes (length target) ≡ 0
    → ReadsBack S lengths bytes target (packed S lengths bytes)
unfolding machines_of packing packed_target
packed_reads_back S lengths bytes target e =
    let card = packed S lengths bytes in
    let p = packable S lengths bytes (length target) e in
    let a = packed_accepted S lengths bytes (length target) p in
    let q = packed_parts S lengths bytes in
    record {
      accepts = a;
      symbols = packed_symbols S lengths bytes;
      parts = q;
      part_lengths = rw q (split_lengths lengths bytes (omega (arith, p.sum)));
      part_bytes = rw q (split_joined lengths bytes p.sum);
      machines = rw q;
      reads = λ i h. ap (λ r. r.number) (reading_accepted card i a (rw packed_machines h));
      part = λ i h. rw (reading_accepted card i a (rw packed_machines h)) (sym (part_at card i (rw packed_machines h) []) ∙ ap (λ (ps : List (List ℕ)). get_or ps i []) q);
      size = rw e;
      front = rw e (take_at card (drop (length card) target) (length card) refl);
      tail = rw e (drop_at card (drop (length card) target) (length card) refl);
    }

-- For every accepted card, packing its symbol count, its parts' lengths and its parts joined gives that card, byte for byte,
-- and is accepted with any target that is long enough.
pub record PacksBack (card lengths bytes : List ℕ) : Type 0 where
  pub packs : packed (symbol_count card) lengths bytes ≡ card
  pub accepts : (room : ℕ) → length card ≤ room → packing_refusal (symbol_count card) lengths bytes room ≡ 0
  pub writes : (target : List ℕ) → length card ≤ length target → packed_target (symbol_count card) lengths bytes target ≡ card ++ drop (length card) target

pub accepted_packs_back : (card : List ℕ) → Bytes card → card_refusal card ≡ 0 → PacksBack card (map length (parts_of card)) (joined (λ part. part) (parts_of card))
unfolding packed_target
accepted_packs_back card b e =
    let S = symbol_count card in
    let parts = parts_of card in
    let lengths = map length parts in
    let bytes = joined (λ part. part) parts in
    let a = accepted card e in
    let p = repacked card a.layout b in
    let pass : PartsPass S parts = record { counts = rw (length_parts card) a.head.counts; each = a.all_parts; states = a.states } in
    let ok : (room : ℕ) → length card ≤ room → packing_refusal S lengths bytes room ≡ 0 = λ room h. parts_pack S parts pass room (rw p h) in
    record { packs = p; accepts = ok; writes = λ target h. rw (ok (length target) h, p) }

-- The packed card's bytes are bytes, where the packed ones are.
pub packed_is_bytes : (S : ℕ) (lengths bytes : List ℕ) (room : ℕ) → Bytes bytes → packing_refusal S lengths bytes room ≡ 0 → Bytes (packed S lengths bytes)
unfolding packed
packed_is_bytes S lengths bytes room b e =
    let p = packable S lengths bytes room e in
    let c = counts_told (length lengths) S p.counts in
    let few = parts_small S lengths bytes b (omega (arith, p.sum)) p.parts in
    let table = places (2 + 4 * length lengths) lengths in
    bytes_cons (length lengths) (S ∷ (table ++ bytes)) (omega arith)
    (bytes_cons S (table ++ bytes) (omega arith)
    (bytes_append table bytes (places_bytes (2 + 4 * length lengths) lengths (omega arith)) b))
