use Rattle.std.specs.Prelude.{◌*◌, ◌^◌}
use Rattle.cells.specs.Cells.{high_at, low_at}
use Rattle.tight.proofs.JointSteps.{SumTo}
use Rattle.tight.proofs.joint_at.Given as goal

abbrev pub invariant-loop-m : goal.invariant-loop-m
invariant-loop-m l = SumTo (high_at l.steps l.weights l.width l.output) l.places (2 ^ 56) l.m l.high × SumTo (low_at l.steps l.weights l.width l.output) l.places (15 * 2 ^ 48) l.m l.low
