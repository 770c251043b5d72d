use Rattle.std.specs.Prelude.{◌≡◌, ◌&&◌, ◌≢◌, ◌+◌, ◌*◌, ◌<◌, ◌≤◌}
use Rattle.basics.specs.Words.{refl, sym, ◌∙◌, ap, subst, true, not, List, ⊎_elim, ℕ, arith, length, length-set, eqb, member}
use Rattle.machine.specs.Symbols.{empty_symbol}
use Rattle.paths.specs.Costs.{Labels}
use Rattle.paths.specs.Ranked.{ranked_costs}
use Rattle.paths.specs.Walk.{Tight}
use Rattle.product.specs.Laws.LeastPair.{Finding, some_left}
use Rattle.entering.specs.Entering.{cell_graph}
use Rattle.walk.proofs.Nodes.{At, node_of, Ground, Reached, reached_same, pairs_written}
use Rattle.walk.proofs.Passing.{states_are, states_count, hand_pre, symbol_within, symbol_way, places_pre, insertion_way, ways_start, way_least, way_none, way_go, way_falls, way_next}
use Rattle.walk.proofs.Ends.{ends_pre, walked_end}
use Rattle.walk.proofs.Walking.{ground, ground_there, counts_ok, machines_are, machines_few, machines_of_lem, machines_within, insertions_fill, nodes, base_few, sets_few, start_there, starts_walk}
use Rattle.walk.proofs.walk_by.Given as goal

abbrev pub invariant-least : goal.invariant-least
invariant-least l =
    ((L : Labels (ranked_costs 1)) → Ground l.ranked l.sums l.card l.weights l.sets l.size L → (code : ℕ) (before : List ℕ) → Reached l.card l.weights l.sets before l.initial.answer l.size L (node_of l.position code l.initial.states l.initial.high l.initial.low l.initial.written l.initial.marks)
    → Finding l.sets (Tight (cell_graph l.weights l.card l.sets) L (l.position * l.size + code)) l.position l.left)
    × (l.answer ≡ l.initial.answer)
    × ((code : ℕ) → node_of l.position code l.states l.high l.low l.written l.marks ≡ node_of l.position code l.initial.states l.initial.high l.initial.low l.initial.written l.initial.marks)
    × (length l.steps ≡ 390)

abbrev pub decreases-least : goal.decreases-least
decreases-least l =
    l.left

abbrev pub invariant-loop-low : goal.invariant-loop-low
invariant-loop-low l =
    ((L : Labels (ranked_costs 1)) → Ground l.ranked l.sums l.card l.weights l.sets l.size L → Reached l.card l.weights l.sets l.initial.answer l.answer l.size L (node_of l.position l.code l.states l.high l.low l.written l.marks)) × (length l.steps ≡ 390) × (length l.answer ≡ length l.initial.answer)

abbrev pub decreases-loop-low : goal.decreases-loop-low
decreases-loop-low l =
    l.low
