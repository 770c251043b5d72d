-- The sizes of an accepted card: the state counts of its machines stand in front of six numbers. Assumes nothing.
use Rattle.std.specs.Prelude.{◌≡◌, ◌*◌, ◌≤◌}
use Rattle.basics.specs.Words.{sym, ◌∙◌, ap, subst, List, ℕ, arith, length, take, length-take-le}
use Rattle.card.specs.Card.{machines_of, card_refusal}
use Rattle.product.specs.Nodes.{state_counts, product}
use Rattle.tables.specs.Tables.{CountsOfSome}
use Rattle.tables.proofs.Counts.{few_counts}
use Rattle.tables.proofs.Prefix.{front_is, front_length, front_fits, front_counts}
use Rattle.cells.specs.Cells.{places}
use Rattle.cells.specs.Columns.{WeightsOf}
use Rattle.columns.specs.Laws.Places.{places_few, places_small}
use Rattle.grid.specs.declared.Grid.{Grid}
use Rattle.grid.specs.Grids.{GridOf}

module _ {card : List ℕ} {grid : Grid} (ok : card_refusal card ≡ 0) (G : GridOf card grid) where
  pub counts_are : take grid.machines grid.counts ≡ state_counts (machines_of card)
  counts_are = front_is card ok grid.counts grid.machines G.machines G.counts

  pub counts_fit : grid.machines ≤ length grid.counts
  counts_fit = front_fits card ok grid.counts grid.machines G.machines G.counts

  pub counts_length : grid.machines ≡ length (take grid.machines grid.counts)
  counts_length = front_length card ok grid.counts grid.machines G.machines G.counts

  pub counts_some : CountsOfSome (take grid.machines grid.counts)
  counts_some = front_counts card ok grid.counts grid.machines G.machines G.counts

  pub counts_few : length (take grid.machines grid.counts) ≤ 6
  counts_few = few_counts counts_some

  pub machines_few : grid.machines ≤ 6
  machines_few = omega (arith, counts_few, counts_length)

  pub size_is : grid.size ≡ product (take grid.machines grid.counts)
  size_is = G.size ∙ ap product (sym counts_are)

  pub states_are : grid.states ≡ places (take grid.machines grid.counts)
  states_are = G.states ∙ ap places (sym counts_are)

  pub states_few : grid.states ≤ 40
  states_few = omega (arith, states_are, places_few counts_some)

  pub states_small : grid.size ≤ 16 → grid.states ≤ 21
  states_small h = omega (arith, states_are, places_small counts_some (omega (arith, size_is)))

  -- three weights for each of them, in front of others
  module _ (weights : List ℕ) where
    three_each : take (3 * length (take grid.machines grid.counts)) weights ≡ take (3 * grid.machines) weights
    three_each = ap (λ (n : ℕ). take (3 * n) weights) (sym counts_length)

    pub weights_front_length : length weights ≡ 18 → 3 * grid.machines ≡ length (take (3 * grid.machines) weights)
    weights_front_length e = sym (length-take-le (3 * grid.machines) weights (omega (arith, machines_few)))

    pub weights_front : WeightsOf (take grid.machines grid.counts) (take (3 * length (take grid.machines grid.counts)) weights)
        → WeightsOf (state_counts (machines_of card)) (take (3 * grid.machines) weights)
    weights_front W = subst (λ (ws : List ℕ). WeightsOf (state_counts (machines_of card)) ws) three_each (subst (λ (l : List ℕ). WeightsOf l (take (3 * length (take grid.machines grid.counts)) weights)) counts_are W)

  pub in_front_lem : (B : List ℕ → Type 0) (weights : List ℕ) → B (take (3 * length (take grid.machines grid.counts)) weights) → B (take (3 * grid.machines) weights)
  in_front_lem B weights h = subst B (three_each weights) h
