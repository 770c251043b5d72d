use Rattle.std.specs.Prelude.{◌≡◌, ◌≤◌}
use Rattle.basics.proofs.Words.{length}
use Rattle.optimizer.proofs.Places.{Placed}
use Rattle.optimizer.proofs.profile_of.Given as goal

abbrev pub invariant-loop-place : goal.invariant-loop-place
invariant-loop-place l = Placed l.ranking l.ranked l.place l.counts × (l.place-end ≡ length l.ranking) × (l.place ≤ l.place-end)
