-- The best candidate on a card that lacks one arc which it does not travel: it is the same. From the theorem on the best alone.
use Rattle.std.specs.Prelude.{◌≡◌, ◌≢◌, ◌<◌}
use Rattle.basics.proofs.Words.{refl, sym, ◌∙◌, ap, true, false, false≢true, List, Option, some, none, ℕ, arith, get_or, length-set, map-set_same, get_or-set_same, all_of, all_at}
use Rattle.machine.specs.declared.Pair.{Pair}
use Rattle.machine.specs.Symbols.{is_pair}
use Rattle.machine.specs.Machine.{Machine, no_machine, start_state}
use Rattle.machine.specs.Part.{state_count, machine_of}
use Rattle.machine.specs.Accepted.{accepted as accepted-part}
use Rattle.card.specs.Layout.{machine_count, symbol_count, part_of}
use Rattle.card.specs.Card.{card_refusal, machines_of}
use Rattle.card.specs.Accepted.{accepted}
use Rattle.card.specs.Laws.Machines.{length_machines, machine_at_lem}
use Rattle.candidate.specs.Candidates.{is_some, marks_of, count_of, is_complete, profile_of}
use Rattle.paths.specs.Costs.{Costs}
use Rattle.product.specs.Best.{Contender, contender_of, ProfileOrder}
use Rattle.product.specs.Prices.{Price, Agrees}
use Rattle.product.specs.BestCandidate.{BeatsIn, IsBestIn}
use Rattle.product.specs.Searches.{Searches}
use Rattle.trimming.specs.Travelling.{machine_without, machines_without, travels}
use Rattle.trimming.specs.Trimmed.{LacksArc}
use Rattle.trimming.proofs.Lists.{all_set_same}
use Rattle.trimming.proofs.Runs.{Clashless, run_same, run_kept, run_gone}

-- ---- candidates

-- a candidate that machine i and its trimmed one give the same marks is complete on both cards or on neither, with the same profile
module _ (ms : List Machine) (i j : ℕ) (c : List Pair) (same : marks_of c (machine_without j (get_or ms i no_machine)) ≡ marks_of c (get_or ms i no_machine)) where
  same_complete : is_complete (machines_without i j ms) c ≡ is_complete ms c
  unfolding is_complete
  same_complete = all_set_same (λ m. is_some (marks_of c m)) ms i (machine_without j (get_or ms i no_machine)) no_machine (ap {A = Option ℕ} is_some same)

  same_profile : profile_of (machines_without i j ms) c ≡ profile_of ms c
  unfolding profile_of
  same_profile = map-set_same (λ m. count_of (marks_of c m)) ms i (machine_without j (get_or ms i no_machine)) no_machine (ap count_of same)

-- ---- the best of the candidates meant

module _ {better : ProfileOrder} (ms ms' : List Machine) {Meant Meant' : List Pair → Type 0}
    (kept : (d : List Pair) → Meant' d → Meant d × (profile_of ms' d ≡ profile_of ms d)) where
  -- where the candidates on the second card are among those on the first, with their profiles, the best is the best there if it is one of them
  still_best : (c : List Pair) → Meant' c → IsBestIn better ms Meant c → IsBestIn better ms' Meant' c
  still_best c is b = record { candidate = is; rivals = rivals }
    where
      rivals : (d : List Pair) → Meant' d → d ≢ c → BeatsIn better (contender_of ms' c) (contender_of ms' d)
      rivals d h n = rw ((kept c is).1, (kept d h).1) (b.rivals d (kept d h).0 n)

module _ {card trimmed : List ℕ} {i j : ℕ} (ok : card_refusal card ≡ 0) (ok' : card_refusal trimmed ≡ 0) (lacks : LacksArc card i j trimmed) where
  abbrev ms : List Machine
  ms = machines_of card

  abbrev machine : Machine
  machine = get_or ms i no_machine

  is : i < machine_count card
  is = lacks.has.machine

  its_machine : machine ≡ machine_of (part_of card i)
  its_machine = machine_at_lem card i is no_machine

  clashless : Clashless (symbol_count card) (state_count (part_of card i)) machine.arcs
  unfolding machine_of
  clashless =
      let a = accepted card ok in
      let p = accepted-part (symbol_count card) (part_of card i) (a.part i is) in
      rw its_machine (record { few = omega (arith, a.head.counts.symbols); sound = p.arcs; clashes = p.clashes })

  -- a candidate on the trimmed card runs through machine i
  runs : (d : List Pair) → is_complete (machines_without i j ms) d ≡ true → is_some (marks_of d (machine_without j machine)) ≡ true
  unfolding is_complete
  runs d complete =
      let t = all_at (λ m. is_some (marks_of d m)) (machines_without i j ms) no_machine complete i (omega (arith, length-set ms i (machine_without j machine), length_machines card, is)) in
      rw (get_or-set_same ms i (machine_without j machine) no_machine (omega (arith, length_machines card, is))) at t

  -- as it did
  ran : (d : List Pair) → all_of is_pair d ≡ true → is_complete (machines_without i j ms) d ≡ true → marks_of d (machine_without j machine) ≡ marks_of d machine
  ran d pairs complete = go (marks_of d (machine_without j machine)) refl
    where
      go : (o : Option ℕ) → marks_of d (machine_without j machine) ≡ o → marks_of d (machine_without j machine) ≡ marks_of d machine
      go none e = absurd (false≢true (sym (ap {A = Option ℕ} is_some e) ∙ runs d complete))
      go (some n) e = e ∙ sym (run_kept machine j clashless start_state d pairs n e)

  -- ---- the theorem, for whatever is asked for

  module _ {Meant : List Machine → List Pair → Type 0} {best : ProfileOrder → List ℕ → Option Contender} (asked : Searches Meant best) where
    -- a candidate on the trimmed card is one on the card, with its profile
    kept : (d : List Pair) → Meant (machines_of trimmed) d → Meant ms d × (profile_of (machines_of trimmed) d ≡ profile_of ms d)
    kept d h =
        let k = (asked.candidate h).1 in
        let complete : is_complete (machines_without i j ms) d ≡ true = rw lacks.machines at k.complete in
        let same = ran d k.pairs complete in
        (asked.complete_too h (sym (same_complete ms i j d same) ∙ complete), ap (λ (l : List Machine). profile_of l d) lacks.machines ∙ same_profile ms i j d same)

    -- one that travels the arc is none there
    pub travelled_gone : (c : List Pair) → travels ms i j c ≡ true → ¬ (Meant (machines_of trimmed) c)
    travelled_gone c t h =
        let k = (asked.candidate h).1 in
        let complete : is_complete (machines_without i j ms) c ≡ true = rw lacks.machines at k.complete in
        false≢true (sym (ap {A = Option ℕ} is_some (run_gone machine j clashless start_state c k.pairs t)) ∙ runs c complete)

    -- and one that does not is
    stays : (c : List Pair) → travels ms i j c ≡ false → Meant ms c → Meant (machines_of trimmed) c
    stays c off h =
        asked.complete_too h (ap (λ (l : List Machine). is_complete l c) lacks.machines ∙ same_complete ms i j c (run_same machine j start_state c off) ∙ (asked.candidate h).1.complete)

    -- so the best is the same, in every order on profiles with a price that agrees with it
    pub same_best : {costs : Costs} {price : Price costs} {better : ProfileOrder} → Agrees price better → (b : Contender) → best better card ≡ some b → travels ms i j b.candidate ≡ false → best better trimmed ≡ some b
    same_best agrees b e off =
        let all = asked.best_of_all agrees card ok in
        let here = all.is_best b e in
        let there = stays b.candidate off here.candidate in
        let q = (kept b.candidate there).1 ∙ sym (all.its_profile b e) in
        (asked.best_of_all agrees trimmed ok').only_it b.candidate (still_best ms (machines_of trimmed) kept b.candidate there here)
        ∙ (λ k. some (record { candidate = b.candidate; profile = q k }))
