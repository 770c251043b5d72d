use Rattle.adding.proofs.Rows.{StateTo}
use Rattle.adding.proofs.add_state.Given as goal

abbrev pub invariant-loop-code : goal.invariant-loop-code
invariant-loop-code l = StateTo l.initial.table l.table l.cells l.codes l.first l.code
