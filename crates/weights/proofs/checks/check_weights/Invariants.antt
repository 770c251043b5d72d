use Rattle.std.specs.Prelude.{◌≡◌, ◌≤◌}
use Rattle.basics.proofs.Words.{length, drop, leb, all_of}
use Rattle.weights.proofs.checks.check_weights.Given as goal

abbrev pub invariant-loop-weight : goal.invariant-loop-weight
invariant-loop-weight l =
    (length l.weights ≡ l.machines) × (l.weight-index ≤ length l.weights) × (all_of (λ w. leb w 4000000000) (drop l.weight-index l.weights) ≡ all_of (λ w. leb w 4000000000) l.weights)
