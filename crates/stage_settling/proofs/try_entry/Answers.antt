use Rattle.basics.proofs.Words.{refl, arith, clash}
use Rattle.stage_settling.proofs.try_entry.Goals as goal

pub returns-then-try_arc : goal.returns-then-try_arc
returns-then-try_arc c =
    record { lower = c.try_arc.result; tried = c.try_arc.ensures; more = λ _. c.put.ensures; same = λ q. absurd (clash c.if-try_arc.true q) }

pub returns-else-try_arc : goal.returns-else-try_arc
returns-else-try_arc c =
    record { lower = c.try_arc.result; tried = c.try_arc.ensures; more = λ q. absurd (clash q c.if-try_arc.false); same = λ _. refl }
