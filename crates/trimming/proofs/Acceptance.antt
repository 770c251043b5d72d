-- Of every arc of an accepted card there is an accepted card that lacks it and nothing else: its counts and its other parts are those of the card.
use Rattle.std.specs.Prelude.{◌≡◌, ◌∷◌, ◌+◌, ◌*◌, ◌<◌}
use Rattle.basics.specs.Words.{refl, sym, ◌∙◌, ap, List, [], map, ℕ, zero, suc, arith, length, get_or, set, length-set, map-set_same, get_or-set_same, get_or-set_other, ℕ_discrete, product}
use Rattle.refusals.proofs.Refusals.{none_first}
use Rattle.machine.specs.Machine.{Machine, no_machine, state_count_of}
use Rattle.machine.specs.Part.{state_count, machine_of, part_refusal}
use Rattle.machine.specs.Accepted.{Shaped}
use Rattle.layout.specs.Layout.{Bytes, length_of, offset_of}
use Rattle.card.specs.Layout.{machine_count, symbol_count, parts_of, part_of}
use Rattle.card.specs.Card.{card_refusal, machines_of, parts_refusal}
use Rattle.card.specs.Accepted.{Accepted, accepted}
use Rattle.card.specs.OfParts.{card_of, MadeOf, made_of}
use Rattle.card.specs.Laws.Bytes.{bytes_take, bytes_drop}
use Rattle.card.specs.Laws.Checked.{part_shaped}
use Rattle.card.specs.Laws.Layout.{length_parts, part_at}
use Rattle.card.specs.Laws.Machines.{machine_at_lem}
use Rattle.product.specs.Nodes.{node_count}
use Rattle.trimming.specs.Travelling.{machine_without, machines_without}
use Rattle.trimming.specs.Trimmed.{HasArc, LacksArc, part_without, parts_without, card_without}
use Rattle.trimming.proofs.Parts.{same_state_count, trimmed_machine, trimmed_part, trimmed_bytes}

-- a card that lacks an arc has as many nodes
pub same_nodes : {card trimmed : List ℕ} {i j : ℕ} → LacksArc card i j trimmed → (n : ℕ) → node_count (machines_of trimmed) n ≡ node_count (machines_of card) n
same_nodes {card} {i = i} {j = j} lacks n =
    let ms = machines_of card in
    ap (λ (l : List Machine). node_count l n) lacks.machines
    ∙ ap (λ (counts : List ℕ). (n + 1) * product counts) (map-set_same state_count_of ms i (machine_without j (get_or ms i no_machine)) no_machine refl)

-- parts with one replaced
set_passes : (S : ℕ) (parts : List (List ℕ)) (i : ℕ) (part : List ℕ) → parts_refusal S parts ≡ 0 → part_refusal S part ≡ 0 → parts_refusal S (set parts i part) ≡ 0
unfolding parts_refusal
set_passes S [] i part e q = e
set_passes S (p ∷ ps) zero part e q = let h = none_first (part_refusal S p) (map (part_refusal S) ps) e in rw (q, h.1)
set_passes S (p ∷ ps) (suc i) part e q =
    let h = none_first (part_refusal S p) (map (part_refusal S) ps) e in
    let r = set_passes S ps i part h.1 q in
    rw (h.0, r)

map_set : {A B : Type 0} (f : A → B) (xs : List A) (i : ℕ) (y : A) → map f (set xs i y) ≡ set (map f xs) i (f y)
map_set f [] i y = refl
map_set f (x ∷ xs) zero y = refl
map_set f (x ∷ xs) (suc i) y = ap (λ (l : List _). f x ∷ l) (map_set f xs i y)

module _ (card : List ℕ) (i j : ℕ) (ok : card_refusal card ≡ 0) (has : HasArc card i j) where
  abbrev S : ℕ
  S = symbol_count card

  abbrev part : List ℕ
  part = part_of card i

  a : Accepted card
  a = accepted card ok

  its_part : get_or (parts_of card) i [] ≡ part
  its_part = part_at card i has.machine []

  shape : Shaped part
  shape = part_shaped S part (a.part i has.machine)

  abbrev parts : List (List ℕ)
  parts = set (parts_of card) i (part_without j part)

  count : length parts ≡ machine_count card
  count = length-set (parts_of card) i (part_without j part) ∙ length_parts card

  same_states : map state_count parts ≡ map state_count (parts_of card)
  same_states = map-set_same state_count (parts_of card) i (part_without j part) [] (same_state_count part j shape has.arc ∙ sym (ap state_count its_part))

  made : MadeOf S parts (card_of S parts)
  made =
      made_of S parts
      (record {
        counts = rw count a.head.counts;
        each = set_passes S (parts_of card) i (part_without j part) a.all_parts (trimmed_part part j shape has.arc S (a.part i has.machine));
        states = rw same_states a.states;
      })

  trimmed_machines : map machine_of parts ≡ machines_without i j (machines_of card)
  unfolding machines_of
  trimmed_machines =
      map_set machine_of (parts_of card) i (part_without j part)
      ∙ ap (set (map machine_of (parts_of card)) i) (trimmed_machine part j shape has.arc ∙ ap (machine_without j) (sym (machine_at_lem card i has.machine no_machine)))

  pub trimmed_accepted : card_refusal (card_without i j card) ≡ 0
  unfolding card_without parts_without
  trimmed_accepted = made.accepts

  pub trimmed_lacks : LacksArc card i j (card_without i j card)
  unfolding card_without parts_without
  trimmed_lacks = record { has = has; symbols = made.symbols; count = made.count ∙ count; machines = made.machines ∙ trimmed_machines }

  -- and it is a card of bytes, if the first is
  pub trimmed_is_bytes : Bytes card → Bytes (card_without i j card)
  unfolding card_without parts_without
  trimmed_is_bytes b = made.bytes each
    where
      part_bytes : (k : ℕ) → Bytes (part_of card k)
      part_bytes k = bytes_take (length_of card k) _ (bytes_drop (offset_of card k) card b)

      each : (k : ℕ) → k < length parts → Bytes (get_or parts k [])
      each k h = go (ℕ_discrete k i)
        where
          go : Dec (k ≡ i) → Bytes (get_or parts k [])
          go (yes e) = rw (e, get_or-set_same (parts_of card) i (part_without j part) [] (omega (arith, length_parts card, has.machine))) (trimmed_bytes part j shape has.arc (part_bytes i))
          go (no n) = rw (get_or-set_other (parts_of card) i k (part_without j part) [] n, part_at card k (omega (arith, count, h)) []) (part_bytes k)
