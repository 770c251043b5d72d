use Rattle.basics.proofs.Words.{refl, arith}
use Rattle.settling.proofs.OpenCodes.{one_in, one_same}
use Rattle.settling.proofs.OpenCodes.{part_less}
use Rattle.stage_settling.proofs.choose_in.Goals as goal
use Rattle.stage_settling.proofs.choose_in.Goals.{then-is_before, else-is_before}

pub loop-left-init : goal.loop-left-init
loop-left-init c = (one_in _ _ _ _ c.least.ensures.1 c.least.ensures.2 refl, part_less _ _ _ _ (λ k h. h) c.without_least-left.ensures.1)

pub loop-left-preserved : goal.loop-left-preserved
loop-left-preserved c =
    ((elim c.if-is_before.branch [ then-is_before w ↦ one_in _ _ _ _ c.least-in-loop-left.ensures.1 (c.loop-left.invariant.1 _ c.least-in-loop-left.ensures.2) w.best-is | else-is_before w ↦ one_same _ _ _ _ c.loop-left.invariant.0 w.best-is ]), part_less _ _ _ _ c.loop-left.invariant.1 c.without_least-left-in-loop-left.ensures.1)

pub is_before-requires : goal.is_before-requires
is_before-requires c =
    let v = c.loop-left.invariant in
    let o = v.0 in
    (record { node = c.requires.1.there _ c.least-in-loop-left.ensures.1 (v.1 _ c.least-in-loop-left.ensures.2); stage = c.requires.2 }, omega (arith, o.is, c.requires.1.there o.bit o.small o.has))
