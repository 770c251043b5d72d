use Rattle.cull.specs.Culling.{CodesEnded}
use Rattle.cull.proofs.try_endings.Given as goal

abbrev pub invariant-loop-code : goal.invariant-loop-code
invariant-loop-code l = CodesEnded l.initial.work l.work l.high l.low l.front l.back l.stage l.base l.code
