use Rattle.basics.proofs.Words.{sym}
use Rattle.tight.specs.Laws.Labels.{counts_none, counts_made}
use Rattle.tight.proofs.counts_cell.Goals as goal

pub returns-then-ranked-at-eq0 : goal.returns-then-ranked-at-eq0
returns-then-ranked-at-eq0 c =
    sym (counts_none c.args.ranked.now c.args.node c.if-ranked-at-eq0.true)

pub returns : goal.returns
returns c =
    counts_made c.args.ranked.now c.args.node c.if-ranked-at-eq0.false _ _ _ _ c.both-two.ensures.0 c.both-third.ensures.0 c.both-middle.ensures.0 c.both-last.ensures.0
