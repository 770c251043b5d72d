-- Theorem: for every input the cull and the optimizer give the same result and the same answer slice. Both calls have the contract `Optimizes`, so what
-- `Demand3.demand-3` says of the one it says of the other. The work slices may differ: at entry in their contents, and in their length where both pass 9
-- (`TwoCalls.two-calls`, which also says what holds where they do not); at exit in any way.
use Rattle.std.specs.Prelude.{◌≡◌}
use Rattle.basics.specs.Words.{List, ℕ, length}
use Rattle.candidate.specs.declared.Evaluation.{Evaluation}
use Rattle.optimizer.specs.Optimizes.{Optimizes, OptimizesSets}
use Rattle.optimizer.specs.TwoCalls.{two_calls, two_calls_sets}

module _ (card ranking : List ℕ) {word work work' after after' answer filled filled' : List ℕ} {r r' : Evaluation} (same_length : length work ≡ length work') where
  -- work slices of one length, with any contents
  pub two_engines : Optimizes card ranking word work after answer filled r → Optimizes card ranking word work' after' answer filled' r' → (r ≡ r') × (filled ≡ filled')
  two_engines a b = (two_calls card ranking a b).same_length same_length

  -- with sets
  pub two_engines_sets : OptimizesSets card ranking word work after answer filled r → OptimizesSets card ranking word work' after' answer filled' r' → (r ≡ r') × (filled ≡ filled')
  two_engines_sets a b = (two_calls_sets card ranking a b).same_length same_length
