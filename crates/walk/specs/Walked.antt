-- What the walk writes, whatever the order: the best path, and its profile.
use Rattle.std.specs.Prelude.{◌≡◌, ◌++◌, ◌*◌}
use Rattle.basics.specs.Words.{List, ℕ, length, drop}
use Rattle.machine.specs.declared.Pair.{Pair}
use Rattle.card.specs.Card.{machines_of}
use Rattle.candidate.specs.Candidates.{bytes_of, profile_of}
use Rattle.candidate.specs.Evaluating.{profile_with}
use Rattle.paths.specs.Costs.{Labels}
use Rattle.paths.specs.Ranked.{ranked_costs}
use Rattle.paths.specs.Graph.{path_cost}
use Rattle.paths.specs.Best.{IsBest}
use Rattle.product.specs.ProductGraph.{card_start}
use Rattle.entering.specs.Entering.{cell_graph}
use Rattle.walk.specs.declared.Written.{Written}

-- the bytes of a list of pairs fill the front of the answer, and its other bytes keep their values. The list is the best path from the start, it costs
-- what the label there says, and the profile is the list's
pub record Walked (card ws sets before after : List ℕ) (L : Labels (ranked_costs 1)) (r : Written) : Type 0 where
  pub best : List Pair
  pub count : r.pairs ≡ length best
  pub written : after ≡ bytes_of best ++ drop (2 * length best) before
  pub is_best : IsBest (cell_graph ws card sets) (card_start card) best
  pub costs : path_cost (cell_graph ws card sets) (card_start card) best ≡ L (card_start card)
  pub profile : r.profile ≡ profile_with (profile_of (machines_of card) best)
