-- What an accepted card promises. Assumes nothing.
use Rattle.std.specs.Prelude.{◌≡◌, ◌∷◌, ◌+◌, ◌*◌, ◌<◌, ◌≤◌}
use Rattle.basics.specs.Words.{refl, List, [], map, ℕ, arith, length, drop, length-map, length-drop, lit<, product}
use Rattle.std.proofs.Common.{leb-true}
use Rattle.refusals.specs.Refusals.{refuse}
use Rattle.refusals.proofs.Refusals.{passed}
use Rattle.machine.specs.Part.{state_count, part_refusal}
use Rattle.layout.specs.Layout.{Bytes, laid_out, part_of}
use Rattle.card.specs.Layout.{machine_count, symbol_count, counted, parts_of}
use Rattle.card.specs.Card.{parts_refusal, few_states, machines_refusal, card_refusal}
use Rattle.card.specs.Laws.Search.{first_passed, rest_passed}
use Rattle.layout.specs.Laws.Bytes.{bytes_drop}
use Rattle.layout.specs.LaidOut.{LaidOut, PartWithin, layout_told, part_within}
use Rattle.card.specs.Laws.Layout.{Headed, head_told, length_parts, part_at}
use Rattle.card.specs.Laws.Repacked.{table_parts, table_total}
use Rattle.card.specs.Laws.Checked.{part_passed, some_state, parts_small}

-- K is 1 to 6 and S 1 to 63, the parts follow one another to the card's end, each is accepted and lies within the card, P is 1 to 128
pub record Accepted (card : List ℕ) : Type 0 where
  pub head : Headed card
  pub layout : LaidOut (machine_count card) card
  pub all_parts : parts_refusal (symbol_count card) (parts_of card) ≡ 0
  pub part : (i : ℕ) → i < machine_count card → part_refusal (symbol_count card) (part_of card i) ≡ 0
  pub within : (i : ℕ) → i < machine_count card → PartWithin card i
  pub some_state : 1 ≤ product (map state_count (parts_of card))
  pub states : product (map state_count (parts_of card)) ≤ 128

pub accepted : (card : List ℕ) → card_refusal card ≡ 0 → Accepted card
unfolding card_refusal
accepted card e =
    let S = symbol_count card in
    let a = counted card in
    let b = laid_out (machine_count card) card in
    let p = parts_refusal S (parts_of card) in
    let d = few_states (parts_of card) in
    let m = machines_refusal S (parts_of card) in
    let ta = passed 1 a (lit< tt) (first_passed (refuse 1 a) (refuse 2 b ∷ m ∷ []) e) in
    let eb = rest_passed (refuse 1 a) (refuse 2 b ∷ m ∷ []) e in
    let ep = first_passed m [] (rest_passed (refuse 2 b) (m ∷ []) eb) in
    let ed = rest_passed p (refuse 6 d ∷ []) ep in
    let l = layout_told (machine_count card) card (passed 2 b (lit< tt) (first_passed (refuse 2 b) (m ∷ []) eb)) in
    let q = first_passed p (refuse 6 d ∷ []) ep in
    record {
      head = head_told card ta;
      layout = l;
      all_parts = q;
      part = λ i h. rw (part_at card i h []) at (part_passed S (parts_of card) i (rw length_parts h) q []);
      within = λ i h. part_within (machine_count card) card l i h;
      some_state = some_state S (parts_of card) q;
      states = leb-true (product (map state_count (parts_of card))) 128 (passed 6 d (lit< tt) (first_passed (refuse 6 d) [] ed));
    }

-- an accepted card has at most 2 + 4 × 6 + 6 × (2 + 32 + 20 × 255) bytes
pub accepted_small : (card : List ℕ) → Bytes card → card_refusal card ≡ 0 → length card ≤ 30830
accepted_small card b e =
    let a = accepted card e in
    let n = 2 + 4 * machine_count card in
    let lengths = map length (parts_of card) in
    let p = table_parts card a.layout lengths refl in
    let t = table_total card a.layout lengths refl in
    let k = length-map (parts_of card) length in
    omega (
      arith,
      a.head,
      t,
      k,
      length_parts card,
      parts_small (symbol_count card) lengths (drop n card) (bytes_drop n card b) (omega (arith, t, length-drop n card)) (rw p a.all_parts),
    )
