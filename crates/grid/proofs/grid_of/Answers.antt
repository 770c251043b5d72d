use Rattle.std.specs.Prelude.{◌≡◌, refl, List, ℕ, ◌≤◌, ◌<◌, length, take}
use Rattle.std.proofs.Common.{sym, ap, ◌∙◌, arith, get_or}
use Rattle.basics.proofs.Words.{length-set, take_all, mul-le-mul, add-one}
use Rattle.machine.specs.Part.{state_count}
use Rattle.machine.specs.Accepted.{accepted as part_accepted}
use Rattle.card.specs.Layout.{machine_count, symbol_count, part_of}
use Rattle.card.specs.Card.{machines_of, card_refusal}
use Rattle.card.specs.Accepted.{accepted}
use Rattle.card.specs.Laws.Machines.{length_machines}
use Rattle.product.specs.Nodes.{state_counts}
use Rattle.tables.specs.Tables.{CountsOfSome}
use Rattle.tables.specs.Laws.Cards.{machine_states, card_machines, card_counts}
use Rattle.tables.proofs.Machines.{count_at_lem, counts_length}
use Rattle.tables.proofs.Counts.{take_next, states_bound, states_start, states_next, states_end}
use Rattle.cells.specs.Cells.{places}
use Rattle.cells.specs.Laws.Sums.{places_next, places_none, places_few as front_few}
use Rattle.columns.specs.Laws.Places.{places_few}
use Rattle.grid.proofs.grid_of.Goals as goal

-- the state counts, in the definitions' words
abbrev its : List ℕ → List ℕ
its card = state_counts (machines_of card)

module _ (card : List ℕ) (ok : card_refusal card ≡ 0) where
  of_some : CountsOfSome (its card)
  of_some = card_counts card ok refl

  -- in a turn: the machine is one of the card's
  module _ (m : ℕ) (in_card : m < machine_count card) where
    there : m < length (its card)
    there = omega (arith, counts_length (machines_of card), length_machines card)

    -- its state count
    module _ {p : List ℕ} {r : ℕ} (part : p ≡ part_of card m) (is : r ≡ state_count p) where
      count : r ≡ get_or (its card) m 0
      count = is ∙ ap state_count part ∙ sym (machine_states card ok m in_card) ∙ sym (count_at_lem (machines_of card) m)

      few : (r ≤ 32) × (m < 6)
      few =
          let M = card_machines card ok in
          (omega (arith, count, count_at_lem (machines_of card) m, M.states m), omega (arith, length_machines card, M.machines))

pub loop-m-init : goal.loop-m-init
loop-m-init c = let card = c.args.card.now in (omega arith, refl, refl, sym (places_none (its card)), states_start (of_some card c.requires))

pub state_count-count-requires : goal.state_count-count-requires
state_count-count-requires c =
    let card = c.args.card.now in
    let m = c.loop-m.m in
    rw c.part.ensures (part_accepted (symbol_count card) (part_of card m) ((accepted card c.requires).part m (omega arith))).shape

pub overflow_cast-counts : goal.overflow_cast-counts
overflow_cast-counts c = omega (arith, few c.args.card.now c.requires c.loop-m.m (omega arith) c.part.ensures c.state_count-count.ensures)

pub bounds-counts-m : goal.bounds-counts-m
bounds-counts-m c = omega (arith, few c.args.card.now c.requires c.loop-m.m (omega arith) c.part.ensures c.state_count-count.ensures)

pub overflow_add-states : goal.overflow_add-states
overflow_add-states c =
    let card = c.args.card.now in
    omega (arith, few card c.requires c.loop-m.m (omega arith) c.part.ensures c.state_count-count.ensures, c.loop-m.invariant.3, front_few c.loop-m.m (its card), places_few (of_some card c.requires))

pub overflow_mul-size : goal.overflow_mul-size
overflow_mul-size c =
    let card = c.args.card.now in
    let b = states_bound (of_some card c.requires) c.loop-m.m c.loop-m.size c.loop-m.invariant.4 in
    let f = few card c.requires c.loop-m.m (omega arith) c.part.ensures c.state_count-count.ensures in
    omega (arith, mul-le-mul {n₂ = 128} {m₂ = 32} b f.0)

pub loop-m-preserved : goal.loop-m-preserved
loop-m-preserved c =
    let card = c.args.card.now in
    let m = c.loop-m.m in
    let h : m < machine_count card = omega arith in
    let r = c.state_count-count.result in
    let f = few card c.requires m h c.part.ensures c.state_count-count.ensures in
    let is : r ≡ get_or (its card) m 0 = count card c.requires m h c.part.ensures c.state_count-count.ensures in
    let t = there card c.requires m h in (
      omega arith,
      simp length-set c.loop-m.invariant.1,
      take_next c.loop-m.counts (its card) m r (omega (arith, f)) t is c.loop-m.invariant.2,
      rw add-one (omega (arith, c.loop-m.invariant.3, is, places_next (its card) m t)),
      states_next (of_some card c.requires) m c.loop-m.size r t is c.loop-m.invariant.4,
    )

pub returns : goal.returns
returns c =
    let card = c.args.card.now in
    let e : machine_count card ≡ c.loop-m.m = omega arith in
    let all : length (its card) ≤ c.loop-m.m = omega (arith, counts_length (machines_of card), length_machines card) in
    record {
      machines = c.machine_count-machines.ensures;
      symbols = c.symbol_count-symbols.ensures;
      counts = ap (λ n. take n c.loop-m.counts) e ∙ c.loop-m.invariant.2 ∙ take_all c.loop-m.m (its card) all;
      states = c.loop-m.invariant.3 ∙ ap places (take_all c.loop-m.m (its card) all);
      size = states_end (of_some card c.requires) c.loop-m.m c.loop-m.size all c.loop-m.invariant.4;
    }
