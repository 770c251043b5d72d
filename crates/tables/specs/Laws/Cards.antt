-- What an accepted card promises of its machines, for the tables.
use Rattle.std.specs.Prelude.{◌≡◌, ◌<◌, ◌≤◌}
use Rattle.basics.specs.Words.{◌∙◌, ap, List, map, ℕ, arith, List·getD-eq-default, dec_lt}
use Rattle.machine.specs.Machine.{start_state}
use Rattle.machine.specs.Part.{state_count}
use Rattle.machine.specs.Accepted.{shape_facts, accepted as part_accepted}
use Rattle.card.specs.Layout.{machine_count, symbol_count, part_of}
use Rattle.card.specs.Card.{machines_of, card_refusal}
use Rattle.card.specs.Accepted.{accepted}
use Rattle.product.specs.Nodes.{state_count_of, state_counts, product}
use Rattle.product.specs.ProductGraph.{card_start}
use Rattle.product.specs.Laws.Nodes.{code_below}
use Rattle.product.specs.Laws.JointStep.{starts_below}
use Rattle.product.specs.Laws.Accepted.{part_states, accepted_machines}
use Rattle.tables.specs.StepTable.{no_machine, machine_at}
use Rattle.card.specs.Laws.Machines.{length_machines, machine_at_lem}
use Rattle.tables.specs.Tables.{CardMachines, CountsOfSome}

module _ (card : List ℕ) (ok : card_refusal card ≡ 0) where
  -- a machine has as many states as its part says, 1 to 32
  pub machine_states : (m : ℕ) → m < machine_count card → state_count_of (machine_at (machines_of card) m) ≡ state_count (part_of card m)
  machine_states m h = ap state_count_of (machine_at_lem card m h no_machine) ∙ part_states (symbol_count card) (part_of card m) ((accepted card ok).part m h)

  few_states_lem : (m : ℕ) → Dec (m < machine_count card) → state_count_of (machine_at (machines_of card) m) ≤ 32
  few_states_lem m (yes h) =
      omega (arith, machine_states m h, (shape_facts (part_of card m) (part_accepted (symbol_count card) (part_of card m) ((accepted card ok).part m h)).shape).states)
  few_states_lem m (no h) =
      omega (arith, ap state_count_of (List·getD-eq-default (machines_of card) no_machine {n = m} (omega (arith, length_machines card))))

  pub card_machines : CardMachines (symbol_count card) (machines_of card)
  card_machines =
      let a = accepted card ok in
      let b = accepted_machines card ok in
      record {
        some_machine = omega (arith, b.count, b.some_machine);
        machines = omega (arith, b.count, a.head.counts);
        sound = b.sound;
        states = λ m. few_states_lem m (dec_lt m (machine_count card));
        joint_states = b.few_states_lem;
        symbols = omega (arith, a.head.counts);
      }

  -- the start node is one of the first position's
  pub start_below : card_start card < product (state_counts (machines_of card))
  start_below = omega (arith, code_below (state_counts (machines_of card)) (map (λ m. start_state) (machines_of card)) (starts_below (accepted_machines card ok).sound))

  pub card_counts : {counts : List ℕ} → counts ≡ state_counts (machines_of card) → CountsOfSome counts
  card_counts e = record { symbols = symbol_count card; machines = machines_of card; card = card_machines; are = e }
