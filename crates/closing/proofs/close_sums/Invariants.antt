use Rattle.closing.specs.Closing.{SumsClosed}
use Rattle.closing.proofs.close_sums.Given as goal

abbrev pub invariant-loop-code : goal.invariant-loop-code
invariant-loop-code l = SumsClosed l.initial.work l.work l.own l.base l.code
