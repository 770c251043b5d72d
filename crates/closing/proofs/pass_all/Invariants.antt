use Rattle.closing.proofs.Passing.{PassedBelow}
use Rattle.closing.proofs.pass_all.Given as goal

abbrev pub invariant-loop-code : goal.invariant-loop-code
invariant-loop-code l = PassedBelow l.initial.own l.own l.initial.next l.next l.code
