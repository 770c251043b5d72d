use Rattle.std.specs.Prelude.{◌+◌, ◌*◌}
use Rattle.stage_entering.specs.Entering.{CodesTried}
use Rattle.stage_entering.proofs.try_four.Given as goal

abbrev pub invariant-loop-a : goal.invariant-loop-a
invariant-loop-a l = CodesTried l.fn.work l.work l.high l.low l.front l.back l.stage l.base (l.base + l.size) (l.a * l.back)

abbrev pub invariant-loop-b : goal.invariant-loop-b
invariant-loop-b l = CodesTried l.fn.work l.work l.high l.low l.front l.back l.stage l.base (l.base + l.size) (l.a * l.back + l.b)
