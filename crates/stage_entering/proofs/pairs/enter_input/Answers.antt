use Rattle.basics.proofs.Words.{◌∙◌, inr, arith}
use Rattle.cells.specs.Laws.Fours.{without_less}
use Rattle.entering.proofs.Fours.{four_few, four_or_after}
use Rattle.stage_entering.proofs.Front.{ahead_kept}
use Rattle.stage_entering.proofs.Fours.{fours_start, fours_next, fours_end, add_ready, four_ready, nodes_kept, codes_are}
use Rattle.stage_entering.proofs.pairs.enter_input.Goals as goal

pub prepare-outputs-requires : goal.prepare-outputs-requires
prepare-outputs-requires c =
    let T = c.requires.0.tables in
    let w = T.groups.states_are in
    record { accepted = T.accepted; counts_are = T.counts_are; input = c.requires.0.input; width = w; room = omega (arith, w, T.room) }

pub loop-outputs-init : goal.loop-outputs-init
loop-outputs-init c =
    (fours_start, omega (arith, c.prepare-outputs.type_inv), c.requires.0.high_size, c.requires.0.low_size)

pub add_four-requires : goal.add_four-requires
add_four-requires c =
    add_ready c.requires.0.tables c.prepare-outputs.ensures (four_few c.loop-outputs.outputs c.next_four-four.ensures) c.loop-outputs.invariant.2 c.loop-outputs.invariant.3

pub try_four-requires : goal.try_four-requires
try_four-requires c =
    let Q = c.requires.0 in
    let j = c.add_four in
    four_ready Q.tables c.prepare-outputs.ensures (four_few c.loop-outputs.outputs c.next_four-four.ensures) (c.add_four.auto.high ∙ c.loop-outputs.invariant.2) (c.add_four.auto.low ∙ c.loop-outputs.invariant.3) j.ensures _ _ Q.order (nodes_kept c.loop-outputs.invariant.0.size c.loop-outputs.invariant.0.others Q.given) (ahead_kept c.loop-outputs.invariant.0.counts (λ w h. c.loop-outputs.invariant.0.others w (inr h)) Q.ahead_is)

pub loop-outputs-smaller : goal.loop-outputs-smaller
loop-outputs-smaller c =
    omega (arith, c.without_four-outputs.ensures, without_less c.loop-outputs.outputs c.loop-outputs.invariant.1 (omega (arith, c.loop-outputs-test.true)))

pub loop-outputs-preserved : goal.loop-outputs-preserved
loop-outputs-preserved c =
    let j = c.add_four in
    let f = c.next_four-four.ensures in
    let eh = c.add_four.auto.high ∙ c.loop-outputs.invariant.2 in
    let el = c.add_four.auto.low ∙ c.loop-outputs.invariant.3 in (
      fours_next c.requires.0.tables c.prepare-outputs.ensures (four_few c.loop-outputs.outputs f) eh el j.ensures (four_or_after c.loop-outputs.outputs c.loop-outputs.invariant.1 f c.without_four-outputs.ensures) c.loop-outputs.invariant.0 c.try_four.ensures,
      omega (arith, c.without_four-outputs.type_inv),
      eh,
      el,
    )

pub returns : goal.returns
returns c =
    fours_end (codes_are c.requires.0.tables) c.requires.1 c.prepare-outputs.ensures (omega (arith, c.loop-outputs-test.false)) c.loop-outputs.invariant.0
