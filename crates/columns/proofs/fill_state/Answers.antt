use Rattle.std.specs.Prelude.{◌-◌, ◌+◌}
use Rattle.std.specs.Int.Bits.{or_zero_r}
use Rattle.basics.proofs.Words.{refl, ◌∙◌, arith}
use Rattle.machine.specs.Part.{state_count, arc_count, arcs_of}
use Rattle.machine.specs.Accepted.{accepted}
use Rattle.machine.specs.Laws.Arcs.{arcs_count}
use Rattle.columns.proofs.AtHand.{arc_of, from_another, from_state, state_none, state_next, state_all}
use Rattle.columns.proofs.fill_state.Goals as goal

pub arc_count-i-requires : goal.arc_count-i-requires
arc_count-i-requires c = (accepted c.requires.0.accepted.0 c.args.part.now c.requires.0.accepted.1).shape

pub loop-i-init : goal.loop-i-init
loop-i-init c =
    let part = c.args.part.now in (
      omega (arith, c.arc_count-i.ensures),
      refl,
      λ x e. state_none c.args.steps.now (arcs_of part) c.args.state c.args.width c.args.place x c.arc_count-i.result (omega (arith, c.arc_count-i.ensures, arcs_count part (2 + state_count part) (arc_count part))) c.requires.0.blank,
    )

pub nth_arc-arc-requires : goal.nth_arc-arc-requires
nth_arc-arc-requires c =
    ((accepted c.requires.0.accepted.0 c.args.part.now c.requires.0.accepted.1).shape, c.requires.1, omega (arith, c.loop-i.invariant.0, c.loop-i-test.true))

pub enter_arc-taken-requires : goal.enter_arc-taken-requires
enter_arc-taken-requires c =
    arc_of c.requires.0 c.loop-i.steps c.loop-i.invariant.1 (c.loop-i.i - 1) (omega (arith, c.loop-i.invariant.0, c.loop-i-test.true)) c.nth_arc-arc.result (c.nth_arc-arc.ensures c.nth_arc-arc.result)

pub loop-i-preserved-then-arc-state : goal.loop-i-preserved-then-arc-state
loop-i-preserved-then-arc-state c =
    let t = c.loop-i-test.true in
    let part = c.args.part.now in
    let a = c.nth_arc-arc.result in (
      omega (arith, c.loop-i.invariant.0),
      c.enter_arc-taken.auto.steps ∙ c.loop-i.invariant.1,
      λ x e.
          state_next c.args.steps.now (arcs_of part) c.args.state c.args.width c.args.place x (c.loop-i.i - 1) c.loop-i.i a c.loop-i.taken c.enter_arc-taken.result
          (omega (arith, t)) (omega (arith, c.loop-i.invariant.0, t, arcs_count part (2 + state_count part) (arc_count part))) (c.nth_arc-arc.ensures a)
          (c.loop-i.invariant.2 x e) (from_state a c.args.state x c.if-arc-state.true (c.enter_arc-taken.ensures x e)),
    )

pub loop-i-preserved : goal.loop-i-preserved
loop-i-preserved c =
    let t = c.loop-i-test.true in
    let part = c.args.part.now in
    let a = c.nth_arc-arc.result in (
      omega (arith, c.loop-i.invariant.0),
      c.loop-i.invariant.1,
      λ x e.
          rw or_zero_r at
          (state_next c.args.steps.now (arcs_of part) c.args.state c.args.width c.args.place x (c.loop-i.i - 1) c.loop-i.i a c.loop-i.taken 0
          (omega (arith, t)) (omega (arith, c.loop-i.invariant.0, t, arcs_count part (2 + state_count part) (arc_count part))) (c.nth_arc-arc.ensures a)
          (c.loop-i.invariant.2 x e) (from_another a c.args.state x c.if-arc-state.false)),
    )

pub returns : goal.returns
returns c =
    λ x e. state_all c.args.steps.now c.args.part.now c.args.state c.args.width c.args.place x c.loop-i-test.false (c.loop-i.invariant.2 x e)
