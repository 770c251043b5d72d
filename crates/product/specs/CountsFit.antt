-- Counts that fit, over the definitions alone: a candidate that none beats by profile or pair count passes no node twice, so its pairs are few and its
-- counts small. It holds for every accepted card, every order on profiles with a price that agrees with it, and at most 24 symbols or sets of symbols.
use Rattle.std.specs.Prelude.{◌≡◌, ◌<◌, ◌≤◌}
use Rattle.basics.specs.Words.{true, List, ℕ, suc, length, leb, all_of}
use Rattle.machine.specs.declared.Pair.{Pair}
use Rattle.machine.specs.Machine.{Machine}
use Rattle.candidate.specs.Candidates.{profile_of}
use Rattle.paths.specs.Pigeonhole.{Distinct}
use Rattle.product.specs.Nodes.{node_count}
use Rattle.product.specs.Best.{Contender}
use Rattle.product.specs.PassedNodes.{nodes_of}

-- a candidate for n symbols passes no node twice, so it has fewer pairs than there are nodes, at most 3,199, and no count above 48,000, which is 15 a pair
-- and 15 for ending
pub record CountsFit (ms : List Machine) (n : ℕ) (c : List Pair) : Type 0 where
  -- each pair leads to a node
  pub passes_each : length (nodes_of ms c) ≡ suc (length c)
  pub no_node_twice : Distinct (nodes_of ms c)
  pub fewer_than_nodes : length c < node_count ms n
  pub few_pairs : length c ≤ 3199
  pub small_counts : all_of (λ k. leb k 48000) (profile_of ms c) ≡ true

-- what this says of a candidate with its profile
pub record SmallBest (b : Contender) : Type 0 where
  pub pairs : length b.candidate ≤ 3199
  pub counts : all_of (λ n. leb n 48000) b.profile ≡ true
