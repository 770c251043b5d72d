-- The sizes of an accepted card: what every search goes by.
use Rattle.std.specs.Prelude.{◌≡◌}
use Rattle.basics.specs.Words.{List, ℕ, take}
use Rattle.card.specs.Layout.{machine_count, symbol_count}
use Rattle.card.specs.Card.{machines_of}
use Rattle.product.specs.Nodes.{state_counts, product}
use Rattle.cells.specs.Cells.{places}
use Rattle.grid.specs.declared.Grid.{Grid}

pub record GridOf (card : List ℕ) (g : Grid) : Type 0 where
  pub machines : g.machines ≡ machine_count card
  pub symbols : g.symbols ≡ symbol_count card
  pub counts : take (machine_count card) g.counts ≡ state_counts (machines_of card)
  pub states : g.states ≡ places (state_counts (machines_of card))
  pub size : g.size ≡ product (state_counts (machines_of card))
