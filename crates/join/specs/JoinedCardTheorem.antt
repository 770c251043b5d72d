-- The card with two of its machines joined is accepted; its machines are the old ones with the two joined; and so candidates, profiles and the
-- best candidate are what the change promises. Assumes nothing.
use Rattle.std.specs.Prelude.{◌≡◌, ◌∷◌, ◌++◌, ◌⊎◌, ◌<◌, ◌≤◌}
use Rattle.basics.proofs.Words.{refl, sym, ap, ap₂, subst, ◌∙◌, true, List, [], map, inl, inr, ℕ, zero, suc, arith, length, get_or, take, drop, length-map, leb, lit<, take_at, all_of, both, left, right, all_at, map_at}
use Rattle.std.proofs.Common.{eqb-true, leb-true, eq-eqb}
use Rattle.refusals.specs.Refusals.{refuse, first_of}
use Rattle.refusals.proofs.Refusals.{passed, none_first, last_one}
use Rattle.machine.specs.declared.Pair.{Pair}
use Rattle.machine.specs.Symbols.{is_pair}
use Rattle.machine.specs.Machine.{Machine}
use Rattle.machine.specs.Part.{machine_of, state_count, part_refusal}
use Rattle.ranking.specs.Rankings.{is_ranking}
use Rattle.layout.specs.Layout.{Bytes, offset_of, length_of}
use Rattle.card.specs.declared.Packed.{Packed}
use Rattle.card.specs.Layout.{machine_count, symbol_count, parts_of}
use Rattle.card.specs.Card.{machines_of, parts_refusal, card_refusal}
use Rattle.card.specs.Accepted.{Accepted, accepted}
use Rattle.card.specs.OfParts.{card_of, MadeOf, made_of}
use Rattle.card.specs.Laws.Layout.{length_parts, part_at}
use Rattle.card.specs.Laws.Bytes.{bytes_take, bytes_drop}
use Rattle.candidate.specs.Candidates.{is_complete, profile_of}
use Rattle.candidate.specs.Evaluating.{evaluating}
use Rattle.product.specs.Best.{best}
use Rattle.product.specs.Sets.{are64_bits, best_of_sets}
use Rattle.product.proofs.Searches.{of_word, of_sets}
use Rattle.product.specs.Nodes.{state_count_of, state_counts, product}
use Rattle.product.specs.Laws.Accepted.{part_states}
use Rattle.join.specs.Merged.{merged_counts}
use Rattle.join.specs.JoinedMachine.{machine_at, joined_machine, joined_machines, markless}
use Rattle.join.specs.Laws.Machines.{sound_machine}
use Rattle.join.specs.JoinedRanking.{joined_ranking}
use Rattle.join.specs.JoinedCard.{MayJoin, fits_part, joined_part, joined_parts, joined_card, lower, other, joining, machines_refusal, joining_refusal, joining_answer, joining_target}
use Rattle.join.specs.Writing.{CardJoins}
use Rattle.join.specs.JoinTheorem.{Joins, JoinKeeps, join_keeps}
use Rattle.join.specs.BestJoined.{Unmarked, TwoCards, joined_contender, card_joins, best_of_joined}
use Rattle.join.specs.JoinedEvaluation.{SameEvaluation, same_evaluation}
use Rattle.join.specs.Laws.Merged.{length_merged, each_merged, all_merged, map_merged}
use Rattle.join.specs.Laws.Sound.{joined_sound}
use Rattle.join.specs.Laws.Joinable.{may_join}
use Rattle.join.specs.Laws.Parts.{part_machine_sound, passes, each_passes, all_accepted, machines_sound}
use Rattle.join.specs.Laws.MachineBytes.{sound_back, sound_is_bytes, bytes_accepted}

-- ---- the parts

-- P, from the parts and from their machines
parts_product : (S : ℕ) (parts : List (List ℕ)) → parts_refusal S parts ≡ 0 → product (state_counts (map machine_of parts)) ≡ product (map state_count parts)
unfolding parts_refusal
parts_product S parts ok = ap product (go parts ok)
  where
    go : (parts : List (List ℕ)) → parts_refusal S parts ≡ 0 → state_counts (map machine_of parts) ≡ map state_count parts
    go [] e = refl
    go (part ∷ rest) e = let h = none_first (part_refusal S part) (map (part_refusal S) rest) e in ap₂ (λ q qs. q ∷ qs) (part_states S part h.0) (go rest h.1)

module _ (S : ℕ) (few : S < 64) (parts : List (List ℕ)) (ok : parts_refusal S parts ≡ 0) (i j : ℕ) (may : MayJoin i j (map machine_of parts)) where
  within : j < length parts
  within = omega (arith, may.within, length-map parts machine_of)

  abbrev p : List ℕ
  p = get_or parts i []

  abbrev q : List ℕ
  q = get_or parts j []

  joins : Joins S i j (map machine_of parts)
  joins = record { symbols = few; order = may.order; within = may.within; sound = machines_sound S parts ok }

  first : machine_at (map machine_of parts) i ≡ machine_of p
  first = map_at machine_of parts i (omega (arith, may.order, within)) _ []

  second : machine_at (map machine_of parts) j ≡ machine_of q
  second = map_at machine_of parts j within _ []

  abbrev the_joined : Machine
  the_joined = joined_machine (machine_of p) (machine_of q)

  is_joined : joined_machine (machine_at (map machine_of parts) i) (machine_at (map machine_of parts) j) ≡ the_joined
  is_joined = λ n. joined_machine (first n) (second n)

  each_part : (k : ℕ) → k < length parts → part_refusal S (get_or parts k []) ≡ 0
  each_part k h = eqb-true (part_refusal S (get_or parts k [])) 0 (all_at (passes S) parts [] (each_passes S parts ok) k h)

  the_joined_sound : sound_machine S the_joined ≡ true
  the_joined_sound =
      joined_sound S (machine_of p) (machine_of q) (part_machine_sound S p (each_part i (omega (arith, may.order, within)))) (part_machine_sound S q (each_part j within)) (go may.unmarked)
    where
      go : (markless (machine_at (map machine_of parts) i) ≡ true) ⊎ (markless (machine_at (map machine_of parts) j) ≡ true) → (markless (machine_of p) ≡ true) ⊎ (markless (machine_of q) ≡ true)
      go (inl h) = inl (ap markless (sym first) ∙ h)
      go (inr h) = inr (ap markless (sym second) ∙ h)

  fits : fits_part the_joined ≡ true
  fits = ap fits_part (sym is_joined) ∙ may.fits

  few_states_lem : state_count_of the_joined ≤ 32
  few_states_lem = leb-true (state_count_of the_joined) 32 (left (leb (state_count_of the_joined) 32) (leb (length the_joined.arcs) 255) fits)

  few_arcs : length the_joined.arcs ≤ 255
  few_arcs = leb-true (length the_joined.arcs) 255 (right (leb (state_count_of the_joined) 32) (leb (length the_joined.arcs) 255) fits)

  -- the new part is accepted, and its machine is the joined one
  part_accepted : part_refusal S (joined_part p q) ≡ 0
  part_accepted = bytes_accepted the_joined S few the_joined_sound few_states_lem

  pub parts_accepted : parts_refusal S (joined_parts i j parts) ≡ 0
  parts_accepted =
      all_accepted S (joined_parts i j parts)
      (all_merged (passes S) joined_part parts i j [] may.order within
      (eq-eqb (part_refusal S (joined_part p q)) 0 part_accepted
      ∙ sym (both (eq-eqb (part_refusal S p) 0 (each_part i (omega (arith, may.order, within)))) (eq-eqb (part_refusal S q) 0 (each_part j within))))
      ∙ each_passes S parts ok)

  pub parts_machines : map machine_of (joined_parts i j parts) ≡ joined_machines i j (map machine_of parts)
  parts_machines = map_merged machine_of joined_part joined_machine parts i j [] may.order within (sound_back the_joined S few the_joined_sound)

  pub parts_states : product (map state_count (joined_parts i j parts)) ≡ product (map state_count parts)
  parts_states =
      sym (parts_product S (joined_parts i j parts) parts_accepted)
      ∙ ap (λ (l : List Machine). product (state_counts l)) parts_machines
      ∙ (join_keeps joins).states
      ∙ parts_product S parts ok

  -- its bytes are bytes, where those of the old ones are
  pub parts_are_bytes : ((k : ℕ) → k < length parts → Bytes (get_or parts k [])) → (k : ℕ) → k < length (joined_parts i j parts) → Bytes (get_or (joined_parts i j parts) k [])
  parts_are_bytes each = each_merged Bytes joined_part parts i j [] may.order within each (sound_is_bytes the_joined S few the_joined_sound few_states_lem few_arcs)

-- ---- the card

pub record CardJoined (i j : ℕ) (card new : List ℕ) : Type 0 where
  -- it is accepted, so no clash arises; S and P are the same
  pub accepts : card_refusal new ≡ 0
  pub symbols : symbol_count new ≡ symbol_count card
  pub states : product (state_counts (machines_of new)) ≡ product (state_counts (machines_of card))
  pub parts : parts_of new ≡ joined_parts i j (parts_of card)
  pub machines : machines_of new ≡ joined_machines i j (machines_of card)
  pub bytes : Bytes card → Bytes new
  -- a candidate is complete on the new card exactly when it is on the old, and its profile there is the old one with the two counts added
  pub complete : (c : List Pair) → all_of is_pair c ≡ true → is_complete (machines_of new) c ≡ is_complete (machines_of card) c
  pub profile : (c : List Pair) → all_of is_pair c ≡ true → is_complete (machines_of card) c ≡ true → profile_of (machines_of new) c ≡ merged_counts i j (profile_of (machines_of card) c)
  -- so evaluation answers the same, the two counts added
  pub evaluation : (bytes : List ℕ) → SameEvaluation i j (evaluating card bytes) (evaluating new bytes)
  -- and the best candidate is the same, where the joined machine is ranked in the place of the one with marks: for a word, and for sets
  pub best_one : (u : ℕ) → Unmarked i j u (machines_of card) → (ranking word : List ℕ) → is_ranking (machine_count card) ranking ≡ true
      → best new (joined_ranking i j u ranking) word ≡ joined_contender i j (best card ranking word)
  pub best_of_sets_lem : (u : ℕ) → Unmarked i j u (machines_of card) → (ranking sets : List ℕ) → is_ranking (machine_count card) ranking ≡ true → are64_bits sets ≡ true
      → best_of_sets new (joined_ranking i j u ranking) sets ≡ joined_contender i j (best_of_sets card ranking sets)

pub card_joined : (card : List ℕ) → card_refusal card ≡ 0 → (i j : ℕ) → MayJoin i j (machines_of card) → CardJoined i j card (joined_card i j card)
unfolding machines_of joined_card best best_of_sets
card_joined card ok i j may = record {
  accepts = made.accepts;
  symbols = made.symbols;
  states = ap (λ (l : List Machine). product (state_counts l)) machines ∙ keeps.states;
  parts = made.parts;
  machines = machines;
  bytes = λ b. made.bytes (parts_are_bytes S few (parts_of card) a.all_parts i j may (λ k h.
      subst Bytes (sym (part_at card k (omega (arith, old, h)) [])) (bytes_take (length_of card k) (drop (offset_of card k) card) (bytes_drop (offset_of card k) card b))));
  complete = λ c is. ap (λ (l : List Machine). is_complete l c) machines ∙ keeps.complete c is;
  profile = λ c is t. ap (λ (l : List Machine). profile_of l c) machines ∙ keeps.profile c is t;
  evaluation = same_evaluation two;
  best_one = λ u n ranking word is. best_of_joined two n (of_word word) ranking is;
  best_of_sets_lem = λ u n ranking sets is bits. best_of_joined two n (of_sets sets bits) ranking is;
}
  where
    S : ℕ
    S = symbol_count card

    a : Accepted card
    a = accepted card ok

    few : S < 64
    few = omega (arith, a.head)

    parts : List (List ℕ)
    parts = joined_parts i j (parts_of card)

    old : length (parts_of card) ≡ machine_count card
    old = length_parts card

    in_card : j < machine_count card
    in_card = omega (arith, old, may.within, length-map (parts_of card) machine_of)

    count : suc (length parts) ≡ machine_count card
    count = length_merged joined_part (parts_of card) i j may.order (omega (arith, old, in_card)) ∙ old

    made : MadeOf (symbol_count card) (joined_parts i j (parts_of card)) (card_of (symbol_count card) (joined_parts i j (parts_of card)))
    made =
        made_of S parts
        (record {
          counts = record {
            some_machine = omega (arith, count, in_card, may.order);
            machines = omega (arith, count, a.head);
            some_symbol = omega (arith, a.head);
            symbols = omega (arith, a.head);
          };
          each = parts_accepted S few (parts_of card) a.all_parts i j may;
          states = omega (arith, a.states, parts_states S few (parts_of card) a.all_parts i j may);
        })

    machines : machines_of (joined_card i j card) ≡ joined_machines i j (machines_of card)
    machines = made.machines ∙ parts_machines S few (parts_of card) a.all_parts i j may

    two : TwoCards i j card (joined_card i j card)
    two = record { first_accepted = ok; order = may.order; within = in_card; second_accepted = made.accepts; symbols = made.symbols; machines = machines }

    keeps : JoinKeeps i j (machines_of card)
    keeps = join_keeps (card_joins card ok i j may.order in_card)

-- ---- the call: where nothing is refused, the new card is the card with the lower and the other machine joined

module _ (card : List ℕ) (a b room : ℕ) (e : joining_refusal card a b room ≡ 0) where
  none_met : (machines_refusal card a b ≡ 0) × (first_of (refuse 18 (leb (length (joining card a b)) room) ∷ []) ≡ 0)
  unfolding joining_refusal
  none_met = none_first (machines_refusal card a b) (refuse 18 (leb (length (joining card a b)) room) ∷ []) e

  pub joining_joins : CardJoins card (lower a b) (other a b)
  joining_joins = may_join card a b none_met.0

  pub joining_card : CardJoined (lower a b) (other a b) card (joining card a b)
  joining_card = card_joined card joining_joins.accepted (lower a b) (other a b) joining_joins.may

  -- and the target has room for it
  pub joining_fits : length (joining card a b) ≤ room
  joining_fits = leb-true (length (joining card a b)) room (passed 18 (leb (length (joining card a b)) room) (lit< tt) (sym (last_one (refuse 18 (leb (length (joining card a b)) room))) ∙ none_met.1))

-- where the call answers number 0, nothing is refused, and the front of the target at exit, of the length answered, is the new card
pub call_joins : (card target after : List ℕ) (a b : ℕ) (r : Packed) → r ≡ joining_answer card a b (length target) → after ≡ joining_target card a b target → r.number ≡ 0
    → (joining_refusal card a b (length target) ≡ 0) × (take r.length after ≡ joining card a b)
unfolding joining_answer joining_target
call_joins card target after a b r e t z = go (joining_refusal card a b (length target)) refl
  where
    new : List ℕ
    new = joining card a b

    go : (n : ℕ) → joining_refusal card a b (length target) ≡ n → (joining_refusal card a b (length target) ≡ 0) × (take r.length after ≡ joining card a b)
    go zero q =
        let len : r.length ≡ length new = ap (λ (p : Packed). p.length) (rw q at e) in
        let end : after ≡ new ++ drop (length new) target = rw q at t in
        (q, ap₂ (λ (k : ℕ) (l : List ℕ). take k l) len end ∙ take_at new (drop (length new) target) (length new) refl)
    go (suc n) q = let w : r.number ≡ suc n = ap (λ (p : Packed). p.number) (rw q at e) in absurd (omega (arith, w, z))

-- so that front is a card with the two joined
pub call_joined : (card target after : List ℕ) (a b : ℕ) (r : Packed) → r ≡ joining_answer card a b (length target) → after ≡ joining_target card a b target → r.number ≡ 0
    → CardJoined (lower a b) (other a b) card (take r.length after)
call_joined card target after a b r e t z =
    let h = call_joins card target after a b r e t z in
    subst (CardJoined (lower a b) (other a b) card) (sym h.1) (joining_card card a b (length target) h.0)
