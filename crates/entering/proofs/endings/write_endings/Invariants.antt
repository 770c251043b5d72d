use Rattle.entering.specs.Endings.{EndingsWritten}
use Rattle.entering.proofs.endings.write_endings.Given as goal

abbrev pub invariant-loop-code : goal.invariant-loop-code
invariant-loop-code l = EndingsWritten l.own l.high l.low l.front l.back l.code
