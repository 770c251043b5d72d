use Rattle.std.specs.Prelude.{◌≡◌, ◌^◌, ◌<◌}
use Rattle.basics.proofs.Words.{length}
use Rattle.entering.proofs.Fours.{FoursTried}
use Rattle.entering.proofs.enter_input.Given as goal

abbrev pub invariant-loop-outputs : goal.invariant-loop-outputs
invariant-loop-outputs l = FoursTried l.card l.weights l.initial.own l.own l.next l.input l.initial.outputs l.outputs × (l.outputs < 2 ^ 64) × (length l.high ≡ length l.initial.high) × (length l.low ≡ length l.initial.low)

abbrev pub decreases-loop-outputs : goal.decreases-loop-outputs
decreases-loop-outputs l = l.outputs
