use Rattle.basics.proofs.Words.{arith}
use Rattle.settling.proofs.Spreading.{spreading_start, spreading_step, spreading_end, its_label, no_label, try_ready, end_listed, beyond_useless}
use Rattle.settling.proofs.spread.Goals as goal

pub returns-then-high-ge-NOWHERE : goal.returns-then-high-ge-NOWHERE
returns-then-high-ge-NOWHERE c =
    no_label c.requires c.if-high-ge-NOWHERE.true

pub loop-at-init : goal.loop-at-init
loop-at-init c =
    (omega (arith, c.from-start.ensures), spreading_start (its_label c.requires c.if-high-ge-NOWHERE.false) _ c.from-start.ensures)

pub bounds-entries-at : goal.bounds-entries-at
bounds-entries-at c =
    c.requires.sound.within _ _ (end_listed c.requires c.if-high-ge-NOWHERE.false _ c.last_list-last.ensures _ c.loop-at.invariant.0 (omega (arith, c.from-end.ensures)))

pub try_entry-requires : goal.try_entry-requires
try_entry-requires c =
    try_ready c.requires c.if-high-ge-NOWHERE.false _ c.loop-at.invariant.1.fell (end_listed c.requires c.if-high-ge-NOWHERE.false _ c.last_list-last.ensures _ c.loop-at.invariant.0 (omega (arith, c.from-end.ensures)))

pub loop-at-preserved : goal.loop-at-preserved
loop-at-preserved c =
    (omega (arith, c.loop-at.invariant.0), spreading_step c.loop-at.invariant.1 (end_listed c.requires c.if-high-ge-NOWHERE.false _ c.last_list-last.ensures _ c.loop-at.invariant.0 (omega (arith, c.from-end.ensures))) c.try_entry.ensures)

pub returns : goal.returns
returns c =
    spreading_end c.loop-at.invariant.1 (beyond_useless c.requires c.if-high-ge-NOWHERE.false _ c.last_list-last.ensures _ c.loop-at.invariant.1.fell (omega (arith, c.loop-at-test.false, c.from-end.ensures)))
