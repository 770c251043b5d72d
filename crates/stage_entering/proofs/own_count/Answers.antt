use Rattle.basics.proofs.Words.{sym, ◌∙◌, ap, arith}
use Rattle.stage_entering.specs.Entering.{top_of}
use Rattle.stage.proofs.StageWork.{stage_labelled, stage_unlabelled}
use Rattle.stage_entering.proofs.own_count.Goals as goal

pub returns-then-work-node-eq0 : goal.returns-then-work-node-eq0
returns-then-work-node-eq0 c = (ap top_of (sym (stage_unlabelled _ _ _ c.if-work-node-eq0.true)), omega arith)

pub returns : goal.returns
returns c = (c.count_at.ensures.0 ∙ ap top_of (sym (stage_labelled _ _ _ c.if-work-node-eq0.false)), c.count_at.ensures.1)
