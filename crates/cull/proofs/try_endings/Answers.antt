use Rattle.std.specs.Prelude.{◌-◌, ◌≤◌}
use Rattle.basics.specs.Words.{arith}
use Rattle.cull.specs.Culling.{CodesEnded}
use Rattle.cull.proofs.Ending.{ending_places, ended_start, ended_next, ended_end}
use Rattle.cull.proofs.try_endings.Goals as goal

pub loop-code-preserved : goal.loop-code-preserved
loop-code-preserved c = ended_next c.loop-code.invariant c.try_ending.ensures

pub returns : goal.returns
returns c = ended_end c.loop-code.invariant (omega (arith, c.loop-code.auto.code-end, c.loop-code-test.false))
