use Rattle.basics.proofs.Words.{◌∙◌, arith}
use Rattle.settling.proofs.Insertions.{listed}
use Rattle.stage_settling.proofs.Spreading.{spreading_start, spreading_step, spreading_end, settle_kept, entry_ready}
use Rattle.stage_settling.proofs.spread.Goals as goal

pub loop-at-init : goal.loop-at-init
loop-at-init c = spreading_start c.from-start.ensures

pub bounds-entries-at : goal.bounds-entries-at
bounds-entries-at c =
    c.requires.given.within _ _ (listed c.args.ends.now c.args.to c.loop-at.at (omega (arith, c.loop-at.auto.at, c.from-start.ensures)) (omega (arith, c.loop-at-test.true, c.from-end.ensures)))

pub try_entry-requires : goal.try_entry-requires
try_entry-requires c =
    let F = c.loop-at.invariant.fell c.requires.codes (c.requires.given.from _) in
    entry_ready _ _ (settle_kept c.requires.given F) (F.bits ∙ c.requires.bits) (listed c.args.ends.now c.args.to c.loop-at.at (omega (arith, c.loop-at.auto.at, c.from-start.ensures)) (omega (arith, c.loop-at-test.true, c.from-end.ensures)))

pub loop-at-preserved : goal.loop-at-preserved
loop-at-preserved c =
    spreading_step c.loop-at.invariant (listed c.args.ends.now c.args.to c.loop-at.at (omega (arith, c.loop-at.auto.at, c.from-start.ensures)) (omega (arith, c.loop-at-test.true, c.from-end.ensures))) c.try_entry.ensures

pub returns : goal.returns
returns c = spreading_end c.loop-at.invariant (omega (arith, c.loop-at-test.false, c.from-end.ensures))
