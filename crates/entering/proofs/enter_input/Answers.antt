use Rattle.basics.proofs.Words.{refl, sym, ◌∙◌, arith}
use Rattle.cells.specs.Laws.Fours.{without_less}
use Rattle.entering.proofs.Fours.{four_few, four_or_after, of_width, fill_ready, four_ready, try_ready, fours_start, fours_next, fours_end}
use Rattle.entering.proofs.enter_input.Goals as goal

pub prepare-outputs-requires : goal.prepare-outputs-requires
prepare-outputs-requires c =
    fill_ready (of_width c.requires.0 c.requires.0.groups.states_are) c.requires.4

pub loop-outputs-init : goal.loop-outputs-init
loop-outputs-init c =
    (fours_start c.requires.1, omega (arith, c.prepare-outputs.type_inv), refl, refl)

pub add_four-requires : goal.add_four-requires
add_four-requires c =
    four_ready (of_width c.requires.0 c.requires.0.groups.states_are) c.prepare-outputs.ensures (four_few c.loop-outputs.outputs c.next_four-four.ensures) (omega (arith, c.requires.5, c.loop-outputs.invariant.2)) (omega (arith, c.requires.6, c.loop-outputs.invariant.3))

pub try_four-requires : goal.try_four-requires
try_four-requires c =
    let j = c.add_four in
    try_ready (of_width c.requires.0 c.requires.0.groups.states_are) c.prepare-outputs.ensures (four_few c.loop-outputs.outputs c.next_four-four.ensures) (omega (arith, c.requires.5, j.auto.high, c.loop-outputs.invariant.2)) (omega (arith, c.requires.6, j.auto.low, c.loop-outputs.invariant.3)) c.requires.2 c.loop-outputs.invariant.0.position j.ensures

pub loop-outputs-smaller : goal.loop-outputs-smaller
loop-outputs-smaller c =
    omega (arith, c.without_four-outputs.ensures, without_less c.loop-outputs.outputs c.loop-outputs.invariant.1 (omega (arith, c.loop-outputs-test.true)))

pub loop-outputs-preserved : goal.loop-outputs-preserved
loop-outputs-preserved c =
    let j = c.add_four in
    let f = c.next_four-four.ensures in
    let eh = j.auto.high ∙ c.loop-outputs.invariant.2 in
    let el = j.auto.low ∙ c.loop-outputs.invariant.3 in (
      fours_next (of_width c.requires.0 c.requires.0.groups.states_are) c.prepare-outputs.ensures (four_few c.loop-outputs.outputs f) (omega (arith, c.requires.5, eh)) (omega (arith, c.requires.6, el)) c.requires.2 c.loop-outputs.invariant.0.position j.ensures c.requires.3 c.try_four.ensures (four_or_after c.loop-outputs.outputs c.loop-outputs.invariant.1 f c.without_four-outputs.ensures) c.loop-outputs.invariant.0,
      omega (arith, c.without_four-outputs.type_inv),
      eh,
      el,
    )

pub shape_of-own : goal.shape_of-own
shape_of-own c =
    c.loop-outputs.invariant.0.position.size ∙ sym c.requires.0.size

pub shape_of-steps : goal.shape_of-steps
shape_of-steps c =
    c.prepare-outputs.auto.steps

pub shape_of-high : goal.shape_of-high
shape_of-high c = c.loop-outputs.invariant.2

pub shape_of-low : goal.shape_of-low
shape_of-low c = c.loop-outputs.invariant.3

pub returns : goal.returns
returns c =
    fours_end c.requires.0.accepted c.requires.3 c.prepare-outputs.ensures (omega (arith, c.loop-outputs-test.false)) c.loop-outputs.invariant.0
