use Rattle.basics.specs.Words.{arith}
use Rattle.tight.proofs.Tests.{not_keeps, step_leads, step_pre, keeps_step, trying_start, trying_end, trying_found, trying_next}
use Rattle.tight.proofs.least_tight.Goals as goal
use Rattle.tight.proofs.least_tight.Goals.{in-Some+else-keeps, in_default}

pub loop-left-init : goal.loop-left-init
loop-left-init c = trying_start

pub overflow_add-base : goal.overflow_add-base
overflow_add-base c =
    let J = c.in-Some.ensures in
    let e = c.least-output.ensures in
    omega (arith, (step_leads _ _ _ J.1 J.0 c.requires (omega (arith, e.1))).few)

pub label_at-rest-requires : goal.label_at-rest-requires
label_at-rest-requires c =
    let J = c.in-Some.ensures in
    let e = c.least-output.ensures in
    let L = step_leads _ _ _ J.1 J.0 c.requires (omega (arith, e.1)) in
    (L.node, L.few)

pub keeps-requires : goal.keeps-requires
keeps-requires c =
    let J = c.in-Some.ensures in
    let e = c.least-output.ensures in
    step_pre _ _ _ J.1 J.0 c.requires (omega (arith, e.1)) _ c.label_at-rest.ensures

pub returns-then-keeps : goal.returns-then-keeps
returns-then-keeps c =
    let J = c.in-Some.ensures in
    let e = c.least-output.ensures in
    trying_found c.loop-left.invariant _ e.0 e.1 e.2 J.1 _ c.label_at-rest.ensures (c.keeps.ensures.0 c.if-keeps.true)

pub loop-left-preserved : goal.loop-left-preserved
loop-left-preserved c =
    let e = c.least-output.ensures in
    trying_next c.loop-left.invariant _ e.0 e.1 e.2
    (elim c.match-joint_at.branch [
      | in-Some+else-keeps w ↦ (λ b. w.keeps.ensures.1 w.if-keeps.false (keeps_step _ _ _ w.in-Some.ensures.1 w.in-Some.ensures.0 _ w.label_at-rest.ensures b))
      | in_default w ↦ not_keeps _ _ _ _ _ _ _ _ _ w.in_default.ensures
    ])
    _ c.without_least-left.ensures.1

pub returns : goal.returns
returns c = trying_end c.loop-left.invariant (omega (arith, c.loop-left-test.false))
