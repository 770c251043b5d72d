use Rattle.std.specs.Prelude.{◌≡◌, ◌*◌, ◌-◌, ◌≤◌}
use Rattle.basics.proofs.Words.{length, take, drop}
use Rattle.card.specs.Card.{machines_of}
use Rattle.product.specs.Nodes.{state_counts, product}
use Rattle.cells.specs.Cells.{places}
use Rattle.grid.proofs.grid_of.Given as goal

abbrev pub invariant-loop-m : goal.invariant-loop-m
invariant-loop-m l =
    (l.m ≤ l.machines) × (length l.counts ≡ 6) × (take l.m l.counts ≡ take l.m (state_counts (machines_of l.card))) × (l.states ≡ places (take l.m (state_counts (machines_of l.card)))) × (l.size * product (drop l.m (state_counts (machines_of l.card))) ≡ product (state_counts (machines_of l.card)))
