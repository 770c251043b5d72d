-- What labels say of the best, for an order on profiles and a price that agrees with it: closed labels with none at the start say that there is no
-- candidate, and closed and attained ones have there the price of the best.
use Rattle.std.specs.Prelude.{◌≡◌}
use Rattle.basics.specs.Words.{List, some, ℕ, length}
use Rattle.card.specs.Card.{machines_of}
use Rattle.candidate.specs.Candidates.{profile_of}
use Rattle.paths.specs.Costs.{Costs}
use Rattle.paths.specs.Best.{IsBest}
use Rattle.product.specs.Prices.{Price}
use Rattle.product.specs.ProductGraph.{priced_graph, card_start}
use Rattle.product.specs.Best.{Contender, ProfileOrder}
use Rattle.product.specs.Sets.{best_of_sets_in}

-- the best over the sets, whose path costs x
pub record BestAt {costs : Costs} (price : Price costs) (better : ProfileOrder) (card sets : List ℕ) (x : costs.Cost) : Type 0 where
  pub contender : Contender
  pub is : best_of_sets_in better card sets ≡ some contender
  pub its_profile : contender.profile ≡ profile_of (machines_of card) contender.candidate
  pub cost : x ≡ price.of contender.profile (length contender.candidate)
  pub path : IsBest (priced_graph price card sets) (card_start card) contender.candidate
