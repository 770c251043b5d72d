-- What adding and trying together mean: the labels of a position after the pairs with one symbol and four outputs were tried at each of its codes.
use Rattle.std.specs.Prelude.{◌≡◌, ◌≢◌, ◌+◌, ◌*◌, ◌<◌, ◌≤◌}
use Rattle.basics.specs.Words.{true, List, some, ℕ, suc, arith, get_or, suc-mul, mul-le-mul_right, member}
use Rattle.machine.specs.declared.Pair.{Pair}
use Rattle.machine.specs.Symbols.{empty_symbol}
use Rattle.machine.specs.Machine.{Machine}
use Rattle.paths.specs.Costs.{Labels}
use Rattle.paths.specs.Ranked.{ranked_costs}
use Rattle.paths.specs.Positions.{Entering}
use Rattle.product.specs.Nodes.{state_counts, product, position_at}
use Rattle.product.specs.ProductGraph.{Move, product_graph}
use Rattle.product.specs.Codes.{code_step}
use Rattle.product.specs.Laws.Nodes.{position_at_lem}
use Rattle.product.specs.Laws.Codes.{symbol_edge}
use Rattle.tables.specs.Tables.{CardMachines}
use Rattle.cells.specs.declared.Groups.{Groups}
use Rattle.cells.specs.Cells.{nowhere}
use Rattle.cells.specs.Columns.{HoldsColumns, WeightsOf}
use Rattle.cells.specs.Groups.{GroupsOf, FourAdded}
use Rattle.cells.specs.Labels.{cell_at}
use Rattle.cells.specs.Trying.{label_from, OwnCell, next_cell, cell_price}
use Rattle.cells.specs.Laws.Groups.{all_codes}
use Rattle.cells.specs.Laws.Tried.{lane_pair, lane_sum, code_step_is}
use Rattle.cells.specs.Laws.Position.{placed}
use Rattle.lanes.specs.Trying.{way_by, TriedIn}
use Rattle.lanes.specs.Laws.Position.{DidTo, Lanes, own_least, four_entered}

module _ {S : ℕ} {ms : List Machine} {x W : ℕ} {steps four ws high low : List ℕ} {g : Groups} (M : CardMachines S ms) (H : HoldsColumns ms x W steps) (Z : WeightsOf (state_counts ms) ws)
    (G : GroupsOf (state_counts ms) g) (back_some : 0 < g.back) (J : FourAdded steps four (state_counts ms) ws high low W g) (outputs : (j : ℕ) → get_or four j 0 ≤ 64) where
  module _ (sets next : List ℕ) (i : ℕ) (reads : x ≢ empty_symbol) (there : member (get_or sets i 0) x ≡ true) (nexts : (t : ℕ) → t < product (state_counts ms) → OwnCell (next_cell next t))
      (fits : (c j : ℕ) → c < product (state_counts ms) → j < 4 → (v : Move) → code_step ms c (lane_pair x four j) ≡ some v → (next_cell next v.target).high < nowhere → (way_by next (lane_sum high g c j) (lane_sum low g c j)).high < nowhere) where
    lanes : Lanes ws next (product (state_counts ms)) (i * product (state_counts ms)) ((i + 1) * product (state_counts ms)) (lane_pair x four) (λ c j. code_step ms c (lane_pair x four j)) (lane_sum high g) (lane_sum low g) (product_graph (cell_price ws) sets ms)
    lanes = record {
      whole = Z.whole;
      few = M.joint_states;
      steps = code_step_is M H Z G back_some J outputs;
      edges = λ c j h k. symbol_edge (cell_price ws) sets ms i c h (lane_pair x four j) reads there;
      nexts = nexts;
      fits = fits;
    }

    -- own became own': the four pairs are tried at each code of the position
    pub position_tried : {own own' : List ℕ} {K : Labels (ranked_costs 1)} {Ended : ℕ → Type 0} (Did : ℕ → Pair → Type 0) (L : Labels (ranked_costs 1))
        → ((t : ℕ) → t < product (state_counts ms) → L ((i + 1) * product (state_counts ms) + t) ≡ label_from (next_cell next t))
        → ((c : ℕ) → c < product (state_counts ms) → OwnCell (cell_at own c))
        → TriedIn own own' next high low g.front g.back 0 (g.front * g.back)
        → Entering (product_graph (cell_price ws) sets ms) (position_at (state_counts ms)) K (placed (i * product (state_counts ms)) (product (state_counts ms)) L (cell_at own)) i Ended Did
        → Entering (product_graph (cell_price ws) sets ms) (position_at (state_counts ms)) K (placed (i * product (state_counts ms)) (product (state_counts ms)) L (cell_at own')) i Ended
        (DidTo (i * product (state_counts ms)) (lane_pair x four) Did (product (state_counts ms)) 0)
    position_tried {own} {own'} Did L next_is X T E =
        four_entered lanes L apart next_is (position_at (state_counts ms)) i (λ c h. position_at_lem (state_counts ms) i c h) Did (cell_at own) (cell_at own') X (λ c h. T.inside c (omega arith) (omega (arith, all_codes G))) E
      where
        apart : i * product (state_counts ms) + product (state_counts ms) ≤ (i + 1) * product (state_counts ms)
        apart = let m : suc i * product (state_counts ms) ≤ (i + 1) * product (state_counts ms) = mul-le-mul_right (product (state_counts ms)) (omega arith) in omega (arith, suc-mul i (product (state_counts ms)))

    -- and its cells are labels again
    pub position_own : {own own' : List ℕ} (L : Labels (ranked_costs 1)) → ((t : ℕ) → t < product (state_counts ms) → L ((i + 1) * product (state_counts ms) + t) ≡ label_from (next_cell next t))
        → ((c : ℕ) → c < product (state_counts ms) → OwnCell (cell_at own c)) → TriedIn own own' next high low g.front g.back 0 (g.front * g.back) → (c : ℕ) → c < product (state_counts ms) → OwnCell (cell_at own' c)
    position_own {own} {own'} L next_is X T c h =
        let m : suc i * product (state_counts ms) ≤ (i + 1) * product (state_counts ms) = mul-le-mul_right (product (state_counts ms)) (omega arith) in
        rw (T.inside c (omega arith) (omega (arith, all_codes G))) (own_least lanes L (omega (arith, suc-mul i (product (state_counts ms)))) next_is (position_at (state_counts ms)) i (λ d k. position_at_lem (state_counts ms) i d k) c 4 h (omega arith) (cell_at own c) (X c h))
