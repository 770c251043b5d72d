-- The new card's parts: which old parts they are, how long they are, and the card that they make. Assumes nothing.
use Rattle.std.specs.Prelude.{◌≡◌, ◌++◌, ◌⊎◌, ◌+◌, ◌*◌, ◌-◌, ◌<◌, ◌≤◌}
use Rattle.basics.proofs.Words.{refl, ap, ap₂, sym, subst, ◌∙◌, Bool, true, false, cond, List, [], map, inl, inr, ℕ, suc, arith, length, get_or, take, drop, length-map, ltb, ext_get_or, get_or-take, length-take-le, joined, ltb-true, ltb-false, lt-ltb, le-ltb, map_at}
use Rattle.machine.specs.Machine.{Machine, no_machine}
use Rattle.machine.specs.Part.{state_count, arcs_of, machine_of, shaped}
use Rattle.machine.specs.Accepted.{accepted as part_accepted}
use Rattle.layout.specs.Layout.{Bytes, length_of, part_of}
use Rattle.layout.specs.LaidOut.{part_length}
use Rattle.card.specs.Layout.{machine_count, symbol_count, parts_of}
use Rattle.card.specs.Card.{machines_of}
use Rattle.card.specs.Packing.{total, table, packed}
use Rattle.card.specs.Accepted.{Accepted, accepted, accepted_small}
use Rattle.card.specs.Laws.Layout.{length_parts, part_at}
use Rattle.card.specs.Laws.Machines.{length_machines, machine_at_lem}
use Rattle.card.specs.Laws.Packed.{length_table, packed_length}
use Rattle.card.specs.Laws.Parts.{joined_total}
use Rattle.join.specs.JoinedMachine.{machine_at, joined_arcs, joined_machine, markless}
use Rattle.join.specs.JoinedCard.{fits_part, joined_part, joined_parts, joined_card}
use Rattle.join.specs.JoinedCardTheorem.{card_joined}
use Rattle.join.specs.Writing.{placed, old_number, table_length, joined_bytes, CardJoins}
use Rattle.joined.specs.Writing.{PartsJoin}
use Rattle.join.specs.Laws.Merged.{length_merged, merged_here, merged_before, merged_after}
use Rattle.joined.specs.Laws.Placed.{placed_next}

-- the number that a machine had
pub old_before : (j k : ℕ) → k < j → k ≡ old_number j k
old_before j k h = ap (λ b. cond b k (k + 1)) (sym (lt-ltb k j h))

pub old_after : (j k : ℕ) → j ≤ k → k + 1 ≡ old_number j k
old_after j k h = ap (λ b. cond b k (k + 1)) (sym (le-ltb k j h))

-- parts that are two of a card's
pub joined_ready : (p q p' q' : List ℕ) (n arcs : ℕ) → p' ≡ p → q' ≡ q → PartsJoin p q → n ≡ length (joined_part p q) → arcs ≡ length (joined_arcs (state_count q) (arcs_of p) (arcs_of q))
    → PartsJoin p' q' × (n ≡ length (joined_part p' q')) × (arcs ≡ length (joined_arcs (state_count q') (arcs_of p') (arcs_of q')))
joined_ready p q p' q' n arcs ep eq h en ea = (
  subst (λ (x : List ℕ). PartsJoin x q') (sym ep) (subst (λ (y : List ℕ). PartsJoin p y) (sym eq) h),
  en ∙ ap₂ (λ (x y : List ℕ). length (joined_part x y)) (sym ep) (sym eq),
  ea ∙ ap₂ (λ (x y : List ℕ). length (joined_arcs (state_count y) (arcs_of x) (arcs_of y))) (sym ep) (sym eq),
)

module _ (card : List ℕ) (i j : ℕ) (h : CardJoins card i j) where
  pub is_accepted : Accepted card
  is_accepted = accepted card h.accepted

  pub second_in : j < machine_count card
  second_in = omega (arith, h.may.within, length_machines card)

  pub first_in : i < machine_count card
  first_in = omega (arith, h.may.order, second_in)

  pub few_machines : machine_count card ≤ 6
  few_machines = is_accepted.head.counts.machines

  pub shape_of : (k : ℕ) → k < machine_count card → shaped (part_of card k) ≡ true
  shape_of k hk = (part_accepted (symbol_count card) (part_of card k) (is_accepted.part k hk)).shape

  first_machine : machine_at (machines_of card) i ≡ machine_of (part_of card i)
  first_machine = machine_at_lem card i first_in no_machine

  second_machine : machine_at (machines_of card) j ≡ machine_of (part_of card j)
  second_machine = machine_at_lem card j second_in no_machine

  pub parts_join : PartsJoin (part_of card i) (part_of card j)
  parts_join = record {
    symbols = symbol_count card;
    few = omega (arith, is_accepted.head.counts.symbols);
    first_accepted = is_accepted.part i first_in;
    second_accepted = is_accepted.part j second_in;
    unmarked = go h.may.unmarked;
    fits = ap₂ (λ (x y : Machine). fits_part (joined_machine x y)) (sym first_machine) (sym second_machine) ∙ h.may.fits;
  }
    where
      go : (markless (machine_at (machines_of card) i) ≡ true) ⊎ (markless (machine_at (machines_of card) j) ≡ true) → (markless (machine_of (part_of card i)) ≡ true) ⊎ (markless (machine_of (part_of card j)) ≡ true)
      go (inl t) = inl (ap markless (sym first_machine) ∙ t)
      go (inr t) = inr (ap markless (sym second_machine) ∙ t)

  abbrev P : List (List ℕ)
  P = joined_parts i j (parts_of card)

  old_count : length (parts_of card) ≡ machine_count card
  old_count = length_parts card

  pub new_count : length P ≡ machine_count card - 1
  new_count = omega (arith, length_merged joined_part (parts_of card) i j h.may.order (omega (arith, old_count, second_in)), old_count)

  pub new_here : get_or P i [] ≡ joined_part (part_of card i) (part_of card j)
  new_here =
      merged_here joined_part (parts_of card) i j [] h.may.order (omega (arith, old_count, second_in))
      ∙ ap₂ joined_part (part_at card i first_in []) (part_at card j second_in [])

  pub new_other : (k : ℕ) → (k ≡ i → ⊥) → k + 1 < machine_count card → (old_number j k < machine_count card) × (get_or P k [] ≡ part_of card (old_number j k))
  new_other k n hk = go (ltb k j) refl
    where
      go : (b : Bool) → ltb k j ≡ b → (old_number j k < machine_count card) × (get_or P k [] ≡ part_of card (old_number j k))
      go true e =
          let q = old_before j k (ltb-true k j e) in (
            omega (arith, q, hk),
            merged_before joined_part (parts_of card) i j k [] h.may.order (ltb-true k j e) n ∙ part_at card k (omega (arith, hk)) [] ∙ ap (part_of card) q,
          )
      go false e =
          let q = old_after j k (ltb-false k j e) in
          let z : suc k ≡ k + 1 = omega arith in (
            omega (arith, q, hk),
            merged_after joined_part (parts_of card) i j k [] h.may.order (ltb-false k j e) ∙ ap (λ (m : ℕ). get_or (parts_of card) m []) z ∙ part_at card (k + 1) hk [] ∙ ap (part_of card) q,
          )

  pub other_length : (k : ℕ) → k < machine_count card → length (part_of card k) ≡ length_of card k
  other_length k hk = part_length (machine_count card) card is_accepted.layout k hk

  -- the lengths in the new table
  pub lengths_told : (ns : List ℕ) → length ns ≡ 6 → ((k : ℕ) → k < machine_count card - 1 → get_or ns k 0 ≡ length (get_or P k [])) → take (machine_count card - 1) ns ≡ map length P
  lengths_told ns e f =
      let K = machine_count card - 1 in
      let size : length (take K ns) ≡ K = length-take-le K ns (omega (arith, e, few_machines)) in
      ext_get_or 0 (take K ns) (map length P) (size ∙ sym (length-map P length ∙ new_count))
      (λ k hk.
      let below : k < K = omega (arith, hk, size) in
      get_or-take K ns k 0 below ∙ f k below ∙ sym (map_at length P k (omega (arith, new_count, below)) 0 []))

  -- the card: the table, and the parts behind it
  pub card_length : length (joined_card i j card) ≡ table_length card + length (joined_bytes i j card)
  unfolding joined_card
  card_length =
      packed_length (symbol_count card) (map length P) (joined (λ part. part) P)
      ∙ ap (λ (n : ℕ). 2 + 4 * n + length (joined (λ part. part) P)) (length-map P length ∙ new_count)

  pub total_length : (lengths : List ℕ) → lengths ≡ map length P → total lengths ≡ length (joined_bytes i j card)
  total_length lengths e = ap total e ∙ joined_total P

  pub card_small : Bytes card → length (joined_card i j card) ≤ 30830
  card_small b = let q = card_joined card h.accepted i j h.may in accepted_small (joined_card i j card) (q.bytes b) q.accepts

  pub card_placed : (t t1 t2 lengths : List ℕ) → lengths ≡ map length P → length (joined_card i j card) ≤ length t
      → t1 ≡ table (symbol_count card) lengths ++ drop (2 + 4 * length lengths) t
      → t2 ≡ placed (table_length card) (joined_bytes i j card) t1
      → t2 ≡ placed 0 (joined_card i j card) t
  unfolding joined_card packed placed
  card_placed t t1 t2 lengths e room e1 e2 =
      let S = symbol_count card in
      let front = table S (map length P) in
      let many : 2 + 4 * length lengths ≡ length front = sym (length_table S (map length P) ∙ ap (λ (l : List ℕ). 2 + 4 * length l) (sym e)) in
      let size : table_length card ≡ length front = ap (λ (n : ℕ). 2 + 4 * n) (sym (length-map P length ∙ new_count)) ∙ sym (length_table S (map length P)) in
      let place : table_length card ≡ 0 + length front = omega (arith, size) in
      let first : t1 ≡ placed 0 front t = e1 ∙ ap₂ (λ (l : List ℕ) (n : ℕ). table S l ++ drop n t) e many in
      e2
      ∙ ap (λ (l : List ℕ). placed (table_length card) (joined_bytes i j card) l) first
      ∙ ap (λ (n : ℕ). placed n (joined_bytes i j card) (placed 0 front t)) place
      ∙ placed_next 0 front (joined_bytes i j card) t (omega (arith, place, card_length, room))
