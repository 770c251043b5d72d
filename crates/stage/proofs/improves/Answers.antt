use Rattle.std.proofs.Common.{sym, subst}
use Rattle.basics.specs.Words.{Bool}
use Rattle.stage.specs.Relaxing.{Compared}
use Rattle.stage.proofs.StageWork.{compared_none, compared_less}
use Rattle.stage.proofs.improves.Goals as goal

pub returns-then-work-node-eq0 : goal.returns-then-work-node-eq0
returns-then-work-node-eq0 c = compared_none _ _ _ _ c.if-work-node-eq0.true

pub returns-else-work-node-eq0 : goal.returns-else-work-node-eq0
returns-else-work-node-eq0 c =
    let A = c.args in
    subst (λ (r : Bool). Compared A.work.now A.node A.stage (A.count, A.pairs) r) (sym c.lt.ensures) (compared_less _ _ _ _ _ c.if-work-node-eq0.false)
