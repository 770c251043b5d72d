use Rattle.insertions.proofs.Adding.{AddTo}
use Rattle.insertions.proofs.add_up.Given as goal

abbrev pub invariant-loop-i : goal.invariant-loop-i
invariant-loop-i l = AddTo l.initial.ends l.ends l.last l.i
