-- What the theory of paths asks of the engine's graph, and its edges by position and code.
use Rattle.std.specs.Prelude.{◌≡◌, ◌+◌, ◌*◌, ◌<◌}
use Rattle.basics.specs.Words.{true, List, ℕ, arith, length, get_or, member}
use Rattle.card.specs.Card.{machines_of}
use Rattle.paths.specs.Graph.{Within}
use Rattle.product.specs.Prices.{by_ranking}
use Rattle.product.specs.Setting.{Setting}
use Rattle.product.specs.Laws.Edges.{product_within}
use Rattle.product.specs.Laws.Setting.{machines_sound}
use Rattle.product.specs.Laws.Letters.{OverSets, priced_over}
use Rattle.tables.specs.Engine.{engine_graph}
use Rattle.tables.specs.Places.{six_places}
use Rattle.tables.specs.JointNumbers.{joint_from}
use Rattle.tables.specs.Laws.Edges.{edge_from, symbol_edge}

module _ {card sets : List ℕ} {P : ℕ} (s : Setting card sets P) (ranking : List ℕ) where
  -- ---- what the theory of paths asks

  pub over : OverSets (engine_graph (machines_of card) ranking sets) card sets
  over = priced_over (by_ranking (six_places ranking)) card sets s.accepted

  pub within : Within (engine_graph (machines_of card) ranking sets) ((length sets + 1) * P)
  within = rw s.states (product_within (by_ranking (six_places ranking)) sets (machines_of card) (machines_sound s))

  -- ---- a joint step as an edge

  pub symbol_at : (i x z y : ℕ) → member (get_or sets i 0) x ≡ true → z < P
      → (engine_graph (machines_of card) ranking sets).edge (i * P + z) (record { input = x; output = y }) ≡ edge_from ((i + 1) * P) (joint_from (six_places ranking) (machines_of card) z (record { input = x; output = y }))
  symbol_at i x z y h k = rw s.states (symbol_edge ranking sets (machines_sound s) i z (omega (arith, s.states)) (record { input = x; output = y }) (omega (arith, s.symbols i x h)) h)
