use Rattle.basics.proofs.Words.{sym, ap, ◌∙◌, arith, not}
use Rattle.finder.specs.Steps.{blocks}
use Rattle.finder.proofs.Pairs.{pair_next, pair_fails, pair_end}
use Rattle.finder.proofs.may_stand.Goals as goal

pub returns-then-blocks : goal.returns-then-blocks
returns-then-blocks c =
    sym (pair_fails c.loop-i.invariant c.requires.0 c.loop-i-test.true (ap not (ap (blocks c.args.placed c.args.machine) (sym c.condition_at.ensures) ∙ sym c.blocks-in-loop-i.ensures ∙ c.if-blocks.true)))

pub loop-i-preserved : goal.loop-i-preserved
loop-i-preserved c =
    pair_next c.loop-i.invariant c.requires.0 c.loop-i-test.true (ap not (ap (blocks c.args.placed c.args.machine) (sym c.condition_at.ensures) ∙ sym c.blocks-in-loop-i.ensures ∙ c.if-blocks.false))

pub returns : goal.returns
returns c = sym (pair_end c.loop-i.invariant c.requires.0 c.loop-i-test.false)
