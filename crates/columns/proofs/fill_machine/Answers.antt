use Rattle.std.specs.Prelude.{◌-◌, ◌+◌}
use Rattle.basics.proofs.Words.{refl, ◌∙◌, arith}
use Rattle.machine.specs.Part.{state_count, arc_count, arcs_of}
use Rattle.machine.specs.Accepted.{accepted}
use Rattle.machine.specs.Laws.Arcs.{arcs_count}
use Rattle.columns.proofs.Arcs.{arc_pre, arc_from, place_pre, arc_entered, arcs_none, arcs_next, arcs_all}
use Rattle.columns.proofs.fill_machine.Goals as goal

pub arc_count-i-requires : goal.arc_count-i-requires
arc_count-i-requires c = (accepted c.requires.0.accepted.0 c.args.part.now c.requires.0.accepted.1).shape

pub loop-i-init : goal.loop-i-init
loop-i-init c =
    let part = c.args.part.now in (
      omega (arith, c.arc_count-i.ensures),
      refl,
      λ x e. arcs_none c.args.steps.now (arcs_of part) (state_count part) c.args.width c.args.first x c.requires.0.enough c.arc_count-i.result (omega (arith, c.arc_count-i.ensures, arcs_count part (2 + state_count part) (arc_count part))) c.requires.0.blank,
    )

pub nth_arc-arc-requires : goal.nth_arc-arc-requires
nth_arc-arc-requires c =
    ((accepted c.requires.0.accepted.0 c.args.part.now c.requires.0.accepted.1).shape, c.requires.1, omega (arith, c.loop-i.invariant.0, c.loop-i-test.true))

pub enter_arc-outputs-requires : goal.enter_arc-outputs-requires
enter_arc-outputs-requires c =
    place_pre (omega (arith, c.index.ensures.0)) (arc_pre c.requires.0 c.loop-i.steps c.loop-i.invariant.1 (c.loop-i.i - 1) (omega (arith, c.loop-i.invariant.0, c.loop-i-test.true)) c.nth_arc-arc.result (c.nth_arc-arc.ensures c.nth_arc-arc.result))

pub loop-i-preserved : goal.loop-i-preserved
loop-i-preserved c =
    let t = c.loop-i-test.true in
    let part = c.args.part.now in
    let a = c.nth_arc-arc.result in (
      omega (arith, c.loop-i.invariant.0),
      c.enter_arc-outputs.auto.steps ∙ c.loop-i.invariant.1,
      λ x e.
          arcs_next c.args.steps.now (arcs_of part) (state_count part) c.args.width c.args.first x c.requires.0.enough (c.loop-i.i - 1) c.loop-i.i a c.loop-i.taken c.enter_arc-outputs.result
          (omega (arith, t)) (omega (arith, c.loop-i.invariant.0, t, arcs_count part (2 + state_count part) (arc_count part))) (c.nth_arc-arc.ensures a)
          (arc_from c.requires.0 (c.loop-i.i - 1) (omega (arith, c.loop-i.invariant.0, t)) a (c.nth_arc-arc.ensures a)) (c.loop-i.invariant.2 x e) (arc_entered a x (omega (arith, c.index.ensures.0)) (c.enter_arc-outputs.ensures x e)),
    )

pub returns : goal.returns
returns c =
    λ x e. arcs_all c.args.steps.now c.args.part.now c.args.width c.args.first x (accepted c.requires.0.accepted.0 c.args.part.now c.requires.0.accepted.1).shape c.loop-i-test.false (c.loop-i.invariant.2 x e)
