use Rattle.basics.proofs.Words.{refl, rules, ◌∙◌, ap, arith}
use Rattle.cells.specs.Fours.{next_four}
use Rattle.insertions.proofs.Blocks.{asks_four, high_pre}
use Rattle.insertions.proofs.Loops.{zeros_of, count_start, room_for_four, four_counted, add_pre, counted}
use Rattle.insertions.proofs.count.Goals as goal

pub loop-left-init : goal.loop-left-init
loop-left-init c =
    (count_start (zeros_of c.args.ends.now c.requires.0 (search rules)), refl, refl)

pub add_four-requires : goal.add_four-requires
add_four-requires c =
    asks_four c.requires.1 c.loop-left.left _ _ c.next_four-four.ensures (omega (arith, c.requires.2, c.loop-left.invariant.1)) (omega (arith, c.requires.3, c.loop-left.invariant.2))

pub count_four-requires : goal.count_four-requires
count_four-requires c =
    (room_for_four c.requires.1 (omega arith) c.loop-left.invariant.0, high_pre c.requires.1 c.loop-left.invariant.0.fours (c.next_four-four.ensures ∙ ap next_four c.loop-left.invariant.0.fours_to.left_is) c.add_four.ensures (omega (arith, c.requires.2, c.add_four.auto.high, c.loop-left.invariant.1)))

pub loop-left-preserved : goal.loop-left-preserved
loop-left-preserved c =
    let j = c.add_four in (
      four_counted c.requires.1 (omega arith) c.loop-left.invariant.0 (omega (arith, c.loop-left-test.true)) c.next_four-four.ensures j.ensures c.count_four.ensures c.without_four-left.ensures,
      j.auto.high ∙ c.loop-left.invariant.1,
      j.auto.low ∙ c.loop-left.invariant.2,
    )

pub add_up-requires : goal.add_up-requires
add_up-requires c =
    add_pre c.requires.1 (omega arith) c.loop-left.invariant.0

pub returns : goal.returns
returns c =
    (counted c.requires.1 (omega arith) c.loop-left.invariant.0 (omega (arith, c.loop-left-test.false)) c.add_up.ensures c.fill_on.ensures, search rules)
