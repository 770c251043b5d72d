use Rattle.stage_settling.proofs.Spreading.{Spreading}
use Rattle.stage_settling.proofs.spread.Given as goal

abbrev pub invariant-loop-at : goal.invariant-loop-at
invariant-loop-at l = Spreading l.fn.work l.work l.fn.opened l.opened l.entries l.ends l.stage l.base l.to l.at
