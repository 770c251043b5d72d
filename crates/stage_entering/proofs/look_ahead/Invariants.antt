use Rattle.std.specs.Prelude.{◌≡◌}
use Rattle.basics.specs.Words.{length}
use Rattle.stage_entering.specs.Entering.{AheadOf}
use Rattle.stage_entering.proofs.look_ahead.Given as goal

abbrev pub invariant-loop-code : goal.invariant-loop-code
invariant-loop-code l = (length l.ahead ≡ 128) × AheadOf l.work l.stage l.targets l.code l.ahead
