use Rattle.part_check.proofs.Clashing.{StateChecked}
use Rattle.part_check.proofs.clashes.check_state.Given as goal

abbrev pub invariant-loop-i : goal.invariant-loop-i
invariant-loop-i l = StateChecked l.part l.from l.taken l.i
