use Rattle.closing.specs.Closing.{CountsClosed}
use Rattle.closing.proofs.close_counts.Given as goal

abbrev pub invariant-loop-code : goal.invariant-loop-code
invariant-loop-code l = CountsClosed l.initial.work l.work l.own l.base l.code
