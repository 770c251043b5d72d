use Rattle.basics.proofs.Words.{ap₂, ◌∙◌, arith, get_or}
use lib.Bits.{bit_and, and_le_r}
use Rattle.machine.specs.Machine.{takes}
use Rattle.part_check.proofs.Clashing.{pair_found, not_yet, pairs_end}
use Rattle.part_check.proofs.clashes.note_pairs.Goals as goal

pub returns-then-before-pairs-ne0 : goal.returns-then-before-pairs-ne0
unfolding takes
returns-then-before-pairs-ne0 c =
    let e = ap₂ bit_and (not_yet c.args.taken.now c.args.arc.kind c.args.arc.inputs c.args.arc.outputs c.loop-left.taken c.loop-left.left c.loop-left.invariant.1 c.least-y.result c.least-y.ensures.2) c.pairs_with-pairs.ensures in
    pair_found c.args.taken.now c.args.arc.kind c.args.arc.inputs c.args.arc.outputs c.loop-left.taken c.least-y.result c.least-y.ensures.1 (c.loop-left.invariant.1.passed.some_left c.least-y.result c.least-y.ensures.2)
    (omega (arith, and_le_r (get_or c.loop-left.taken c.least-y.result 0) c.pairs_with-pairs.result, e))
    (λ z. c.if-before-pairs-ne0.true (e ∙ z))

pub returns : goal.returns
unfolding takes
returns c =
    pairs_end c.args.taken.now c.args.arc.kind c.args.arc.inputs c.args.arc.outputs c.loop-left.taken c.loop-left.left c.loop-left.invariant.1 c.loop-left-test.false
