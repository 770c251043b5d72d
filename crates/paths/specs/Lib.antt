-- Best paths in a finite graph whose costs add up and are ordered, in the order in which to read them. The theorems:
-- 1. Labels, `lower_bound`: with closed labels every path costs at least its node's label.
-- 2. Improvement, `improve_end` and `improve_edge`: attained labels stay attained when a node is improved.
-- 3. Bounds, `distinct_short`, `attained_size`: below N nodes a path that passes no node twice has fewer than N letters.
-- 4. Cut, `cut` and `shortened`, and Best, `best_below→best` and `none_below→none`: the lists of fewer than N letters hold the best of all.
-- 5. Walk, `walk_best`: taking the least letter that keeps to closed and attained labels gives the best path.
-- 6. Best, `best_unique` and `answer_unique`: there is one best path at most, so all engines give the same answer.
-- Settling and Positions have what makes labels closed and attained, position by position. Of a theorem that needs that every edge costs something
-- (Costly), `..._of` is the same with that as a premise. proofs/Example has a small graph where all premises are met.
pub mod Total
pub mod Strings
pub mod Costs
pub mod Ranked
pub mod ByRanking
pub mod Graph
pub mod Costly
pub mod Pigeonhole
pub mod Labels
pub mod Improvement
pub mod Bounds
pub mod RankedGraph
pub mod Cut
pub mod Best
pub mod Walk
pub mod Settling
pub mod Positions
pub mod Numbering
