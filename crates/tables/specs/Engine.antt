-- The graph that the engine searches.
use Rattle.basics.specs.Words.{List, ℕ}
use Rattle.machine.specs.Machine.{Machine}
use Rattle.paths.specs.Ranked.{ranked_costs}
use Rattle.paths.specs.Graph.{Graph}
use Rattle.product.specs.Prices.{by_ranking}
use Rattle.product.specs.ProductGraph.{pairs, product_graph}
use Rattle.tables.specs.Places.{six_places}

-- the product of machines over sets of symbols, whose costs are six counts in ranked order and the number of pairs
abbrev pub engine_graph : (ms : List Machine) (ranking sets : List ℕ) → Graph (ranked_costs 6) pairs
engine_graph ms ranking sets = product_graph (by_ranking (six_places ranking)) sets ms
