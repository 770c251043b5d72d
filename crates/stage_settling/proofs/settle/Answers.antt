use Rattle.basics.proofs.Words.{refl, arith}
use Rattle.settling.proofs.OpenCodes.{none_open}
use Rattle.stage_settling.proofs.Spreading.{settling_start, settling_ready, settling_same, settling_step, turn_less}
use Rattle.stage_settling.proofs.settle.Goals as goal
use Rattle.stage_settling.proofs.settle.Goals.{then-is_open, else-is_open}

pub loop-last-init : goal.loop-last-init
loop-last-init c = settling_start c.requires refl (none_open _ refl refl refl)

pub take_one-requires : goal.take_one-requires
take_one-requires c =
    let Z = c.loop-last.invariant in
    record { codes = c.args.size; given = settling_ready Z c.requires; code = omega (arith, c.loop-last-test.true, c.loop-last.auto.last); bits = Z.bits }

pub loop-last-preserved : goal.loop-last-preserved
loop-last-preserved c =
    settling_step c.loop-last.invariant (c.requires.from _) c.take_one.ensures _ (λ w a n. omega (arith, a, n, c.loop-last-test.true))

pub take_one-requires-then-is_open : goal.take_one-requires-then-is_open
take_one-requires-then-is_open c =
    let Z = c.loop-next.invariant in
    record { codes = c.args.size; given = settling_ready Z c.requires; code = c.loop-next-test.true; bits = Z.bits }

pub loop-next-preserved : goal.loop-next-preserved
loop-next-preserved c =
    let Z = c.loop-next.invariant in
    elim c.if-is_open.branch [ then-is_open w ↦ settling_same (settling_step Z (c.requires.from _) w.take_one-then-is_open.ensures _ (λ w a n. a)) w.work-is w.opened-is | else-is_open w ↦ settling_same Z w.work-is w.opened-is ]

pub take_one-requires-in-Some : goal.take_one-requires-in-Some
take_one-requires-in-Some c =
    let Z = c.loop-code.invariant in
    record { codes = c.args.size; given = settling_ready Z c.requires; code = Z.inside _ c.in-Some.ensures; bits = Z.bits }

pub loop-code-smaller : goal.loop-code-smaller
loop-code-smaller c = turn_less c.loop-code.invariant (c.requires.from _) c.take_one-in-Some.ensures c.in-Some.ensures

pub loop-code-preserved : goal.loop-code-preserved
loop-code-preserved c = settling_step c.loop-code.invariant (c.requires.from _) c.take_one-in-Some.ensures _ (λ w a n. a)
