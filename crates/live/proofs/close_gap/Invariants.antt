use Rattle.live.proofs.Places.{Closed}
use Rattle.live.proofs.close_gap.Given as goal

-- the closing up has come to a place
abbrev pub invariant-loop-i : goal.invariant-loop-i
invariant-loop-i l = Closed l.at l.last l.initial.rows l.rows l.i
