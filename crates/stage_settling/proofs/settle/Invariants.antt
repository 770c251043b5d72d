use Rattle.stage_settling.specs.Settling.{turns}
use Rattle.stage_settling.proofs.Spreading.{Settling}
use Rattle.stage_settling.proofs.settle.Given as goal

abbrev pub invariant-loop-last : goal.invariant-loop-last
invariant-loop-last l = Settling l.fn.work l.work l.opened l.entries l.ends l.stage l.base l.size l.last

abbrev pub invariant-loop-next : goal.invariant-loop-next
invariant-loop-next l = Settling l.fn.work l.work l.opened l.entries l.ends l.stage l.base l.size 0

abbrev pub invariant-loop-code : goal.invariant-loop-code
invariant-loop-code l = Settling l.fn.work l.work l.opened l.entries l.ends l.stage l.base l.size 0

abbrev pub decreases-loop-code : goal.decreases-loop-code
decreases-loop-code l = turns l.work l.opened l.stage l.base l.size
