use Rattle.basics.proofs.Words.{refl, arith, rules}
use Rattle.settling.proofs.Settling.{settling_start, spread_ready, settling_same, settling_step, settling_end, height_less}
use Rattle.settling.proofs.settle.Goals as goal
use Rattle.settling.proofs.settle.Goals.{else-is_open, then-is_open}

pub loop-last-init : goal.loop-last-init
loop-last-init c = settling_start c.requires refl

pub take_one-requires : goal.take_one-requires
take_one-requires c =
    spread_ready c.requires c.loop-last.invariant _ _ (omega (arith, c.requires.few)) c.worst-top.ensures

pub loop-last-preserved : goal.loop-last-preserved
loop-last-preserved c =
    settling_step c.loop-last.invariant c.take_one.ensures _ (λ w a n. omega arith)

pub is_open-requires : goal.is_open-requires
is_open-requires c =
    (omega (arith, c.requires.few), (c.loop-next.invariant _ _ c.loop-last.invariant).sizes.bits)

pub take_one-requires-then-is_open : goal.take_one-requires-then-is_open
take_one-requires-then-is_open c =
    spread_ready c.requires (c.loop-next.invariant _ _ c.loop-last.invariant) _ _ (omega (arith, c.requires.few)) c.worst-top.ensures

pub loop-next-preserved : goal.loop-next-preserved
loop-next-preserved c =
    λ xs n s.
    let t = c.loop-next.invariant xs n s in
    (elim c.if-is_open.branch [ then-is_open w ↦ settling_same (settling_step t w.take_one-then-is_open.ensures _ (λ w a n. a)) w.own-is w.opened-is | else-is_open w ↦ settling_same t w.own-is w.opened-is ])

pub choose-requires : goal.choose-requires
choose-requires c =
    (c.loop-code.invariant _ _ (c.loop-next.invariant _ _ c.loop-last.invariant)).sizes.bits

pub take_one-requires-in-Some : goal.take_one-requires-in-Some
take_one-requires-in-Some c =
    spread_ready c.requires (c.loop-code.invariant _ _ (c.loop-next.invariant _ _ c.loop-last.invariant)) _ _ c.in-Some.ensures.0 c.worst-top.ensures

pub loop-code-smaller : goal.loop-code-smaller
loop-code-smaller c =
    let o = c.in-Some.ensures in height_less o.0 o.1 c.take_one-in-Some.ensures

pub loop-code-preserved : goal.loop-code-preserved
loop-code-preserved c =
    λ xs n s. settling_step (c.loop-code.invariant xs n s) c.take_one-in-Some.ensures _ (λ w a n. a)

pub returns : goal.returns
returns c =
    settling_end (c.loop-code.invariant _ _ (c.loop-next.invariant _ _ c.loop-last.invariant)) (omega arith) (search rules)
