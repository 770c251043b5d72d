-- What an accepted card promises of its machines and of P.
use Rattle.std.specs.Prelude.{◌≡◌, ◌∷◌, ◌≤◌}
use Rattle.basics.proofs.Words.{refl, ap, ap₂, List, [], map, ℕ, arith, length, both}
use Rattle.std.proofs.Common.{le-leb}
use Rattle.refusals.proofs.Refusals.{none_first}
use Rattle.machine.specs.Part.{machine_of, state_count, part_refusal}
use Rattle.machine.specs.Accepted.{shape_facts, state_count_lem, accepted}
use Rattle.machine.specs.Steps.{step_bounds, ending_bounds}
use Rattle.card.specs.Layout.{machine_count, symbol_count, parts_of}
use Rattle.card.specs.Card.{machines_of, parts_refusal, card_refusal}
use Rattle.card.specs.Laws.Machines.{length_machines}
use Rattle.card.specs.Accepted.{accepted as card-accepted}
use Rattle.product.specs.Nodes.{state_count_of, state_counts, product}
use Rattle.product.specs.Laws.JointStep.{Sound, AllSound, all_none, all_next}

module _ (S : ℕ) (part : List ℕ) (ok : part_refusal S part ≡ 0) where
  -- a machine has as many states as its part says
  pub part_states : state_count_of (machine_of part) ≡ state_count part
  part_states = state_count_lem part (accepted S part ok).shape

  pub part_sound : Sound S (machine_of part)
  part_sound = record {
    starts = omega (arith, part_states, shape_facts part (accepted S part ok).shape);
    leads = λ s p r e. (omega (arith, part_states, step_bounds S part ok s p r e));
    marks = λ s p r e. (step_bounds S part ok s p r e).marks;
    symbols = λ s p r e. let b = step_bounds S part ok s p r e in both (le-leb p.input S b.input) (le-leb p.output S b.output);
    ends = λ s n e. (ending_bounds S part ok s n e).1;
  }

pub parts_sound : (S : ℕ) (parts : List (List ℕ)) → parts_refusal S parts ≡ 0 → AllSound S (map machine_of parts)
unfolding parts_refusal
parts_sound S [] e = all_none
parts_sound S (part ∷ parts) e =
    let h = none_first (part_refusal S part) (map (part_refusal S) parts) e in
    all_next (part_sound S part h.0) (parts_sound S parts h.1)

-- so the product that the card's check computes from the parts is P
parts_states : (S : ℕ) (parts : List (List ℕ)) → parts_refusal S parts ≡ 0 → state_counts (map machine_of parts) ≡ map state_count parts
unfolding parts_refusal
parts_states S [] e = refl
parts_states S (part ∷ parts) e =
    let h = none_first (part_refusal S part) (map (part_refusal S) parts) e in
    ap₂ (λ q qs. q ∷ qs) (part_states S part h.0) (parts_states S parts h.1)

-- the machines of an accepted card: each sound; K of them, 1 at least; P is 1 to 128
pub record AcceptedMachines (card : List ℕ) : Type 0 where
  pub sound : AllSound (symbol_count card) (machines_of card)
  pub count : length (machines_of card) ≡ machine_count card
  pub some_machine : 1 ≤ machine_count card
  pub some_state : 1 ≤ product (state_counts (machines_of card))
  pub few_states_lem : product (state_counts (machines_of card)) ≤ 128

pub accepted_machines : (card : List ℕ) → card_refusal card ≡ 0 → AcceptedMachines card
unfolding machines_of
accepted_machines card e =
    let a = card-accepted card e in
    let q = ap product (parts_states (symbol_count card) (parts_of card) a.all_parts) in
    record {
      sound = parts_sound (symbol_count card) (parts_of card) a.all_parts;
      count = length_machines card;
      some_machine = omega (arith, a);
      some_state = rw q a.some_state;
      few_states_lem = rw q a.states;
    }
