use Rattle.std.specs.Prelude.{◌≡◌, ◌^◌, ◌<◌}
use Rattle.basics.proofs.Words.{length}
use Rattle.stage_entering.specs.Entering.{codes_at}
use Rattle.stage_entering.proofs.Fours.{FoursTried}
use Rattle.stage_entering.proofs.pairs.enter_input.Given as goal

abbrev pub invariant-loop-outputs : goal.invariant-loop-outputs
invariant-loop-outputs l =
    FoursTried l.card l.weights l.initial.work l.work l.input l.at.base (codes_at l.at) l.at.stage l.initial.outputs l.outputs × (l.outputs < 2 ^ 64) × (length l.high ≡ 264) × (length l.low ≡ 264)

abbrev pub decreases-loop-outputs : goal.decreases-loop-outputs
decreases-loop-outputs l = l.outputs
