-- What the checks before a search answer: what they found and, where they passed, the card's sizes.
use Rattle.std.specs.Prelude.{Result, IfOk, ◌≡◌, ◌<◌, ◌≤◌}
use Rattle.basics.specs.Words.{List, ℕ}
use Rattle.refusals.specs.declared.Refusal.{Refusal}
use Rattle.refusals.specs.Refusals.{checked_number}
use Rattle.grid.specs.declared.Grid.{Grid}
use Rattle.grid.specs.Grids.{GridOf}

pub record Readies (card : List ℕ) (refusal : ℕ) (r : Result Grid Refusal) : Type 0 where
  pub number : checked_number r ≡ refusal
  pub sizes : IfOk r (GridOf card)

-- the sizes of some accepted card
pub record FewSizes (g : Grid) : Type 0 where
  pub machines : g.machines ≤ 6
  pub symbols : g.symbols < 64
  pub joint_states : g.size ≤ 128
