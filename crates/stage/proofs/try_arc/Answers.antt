use Rattle.basics.proofs.Words.{refl, arith}
use Rattle.stage.specs.Relaxing.{unlabelled, dropped}
use Rattle.stage.proofs.StageWork.{stage_labelled, stage_unlabelled, arc_pairs, arc_count_lem, arc_lowered}
use Rattle.stage.proofs.try_arc.Goals as goal

pub returns-then-work-target-eq0 : goal.returns-then-work-target-eq0
returns-then-work-target-eq0 c = unlabelled (stage_unlabelled _ _ _ c.if-work-target-eq0.true) refl refl

pub returns-then-not-arc_left : goal.returns-then-not-arc_left
returns-then-not-arc_left c =
    let d = c.arc_left.ensures.dropped c.if-not-arc_left.true in dropped _ (stage_labelled _ _ _ c.if-work-target-eq0.false) d.0 d.1 d.2 refl refl

pub overflow_add-count-3 : goal.overflow_add-count-3
overflow_add-count-3 c =
    omega (arith, arc_count_lem c.requires c.if-work-target-eq0.false c.marks_at.ensures)

pub overflow_add-pairs-2 : goal.overflow_add-pairs-2
overflow_add-pairs-2 c =
    omega (arith, arc_pairs c.requires c.if-work-target-eq0.false)

pub returns : goal.returns
returns c =
    arc_lowered c.marks_at.ensures c.if-work-target-eq0.false (c.arc_left.ensures.kept c.if-not-arc_left.false) c.lower.ensures
