use Rattle.basics.proofs.Words.{refl, ◌∙◌, ap, arith}
use Rattle.cells.specs.Fours.{next_four}
use Rattle.insertions.proofs.Fours.{fours_same}
use Rattle.insertions.proofs.Blocks.{asks_four, high_pre, low_pre}
use Rattle.insertions.proofs.Loops.{list_start, room_to_list, four_listed, all_fours}
use Rattle.insertions.proofs.Theorem.{listed_by}
use Rattle.insertions.proofs.list.Goals as goal

pub loop-left-init : goal.loop-left-init
loop-left-init c = (list_start, refl, refl)

pub add_four-requires : goal.add_four-requires
add_four-requires c =
    asks_four c.requires.0 c.loop-left.left _ _ c.next_four-four.ensures (omega (arith, c.requires.3, c.loop-left.invariant.1)) (omega (arith, c.requires.4, c.loop-left.invariant.2))

pub list_four-requires : goal.list_four-requires
list_four-requires c =
    let e = c.next_four-four.ensures in
    let q = c.loop-left.invariant.0.fours in
    let d = e ∙ ap next_four c.loop-left.invariant.0.fours_to.left_is in (
      room_to_list c.requires.0 c.requires.1 c.requires.2 c.loop-left.invariant.0 (omega (arith, c.loop-left-test.true)) e c.add_four.ensures,
      high_pre c.requires.0 q d c.add_four.ensures (omega (arith, c.requires.3, c.add_four.auto.high, c.loop-left.invariant.1)),
      low_pre c.requires.0 q d c.add_four.ensures (omega (arith, c.requires.4, c.add_four.auto.low, c.loop-left.invariant.2)),
    )

pub loop-left-preserved : goal.loop-left-preserved
loop-left-preserved c =
    let j = c.add_four in
    let d = c.list_four.ensures in (
      four_listed c.requires.0 c.requires.1 c.requires.2 c.loop-left.invariant.0 (omega (arith, c.loop-left-test.true)) c.next_four-four.ensures j.ensures d.0 d.1 c.without_four-left.ensures,
      j.auto.high ∙ c.loop-left.invariant.1,
      j.auto.low ∙ c.loop-left.invariant.2,
    )

pub returns : goal.returns
returns c =
    let l = c.loop-left.invariant.0 in
    let f = all_fours l.fours_to (omega (arith, c.loop-left-test.false)) in
    listed_by c.args.entries.now c.requires.0.weights (omega arith) c.requires.1 c.requires.2 l.fours f (fours_same c.requires.1.fours_are f) l.entries_are l.ends_are
