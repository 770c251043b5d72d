use Rattle.std.specs.Prelude.{◌-◌}
use Rattle.cells.proofs.Grouping.{Adding}
use Rattle.cells.proofs.add_four.Given as goal

abbrev pub invariant-loop-at : goal.invariant-loop-at
invariant-loop-at l =
    Adding l.steps l.four l.counts l.weights l.initial.high l.initial.low l.high l.low l.width l.initial.last l.initial.next l.all l.first l.last l.end l.at l.next

abbrev pub decreases-loop-at : goal.decreases-loop-at
decreases-loop-at l = l.all - l.at
