use Rattle.std.specs.Prelude.{◌≡◌, ◌+◌, ◌-◌, ◌*◌}
use Rattle.basics.proofs.Words.{sym, ap₂, ◌∙◌, ℕ, arith}
use Rattle.machine.specs.Machine.{step_among}
use Rattle.machine.specs.Part.{arc_at, arcs_at, machine_of}
use Rattle.machine.specs.Accepted.{shape_facts}
use Rattle.machine.specs.Laws.Arcs.{step_go_on, step_stop, step_end}
use Rattle.machine.proofs.Position.step.Goals as goal

pub bounds-part-0 : goal.bounds-part-0
bounds-part-0 c =
    omega (arith, shape_facts _ c.requires.0)

pub bounds-part-1 : goal.bounds-part-1
bounds-part-1 c =
    omega (arith, shape_facts _ c.requires.0)

pub loop-i-init : goal.loop-i-init
loop-i-init c pair i o = rw c.index-first.ensures.0 (ap₂ (λ (at n : ℕ). step_among (arcs_at c.args.part.now at n) c.args.self.state pair) (omega arith) (omega arith))

pub takes_from-requires : goal.takes_from-requires
takes_from-requires c = omega (arith, shape_facts _ c.requires.0, c.index-first.ensures.0, c.index-i-end.ensures.0)

pub bounds-part-at : goal.bounds-part-at
bounds-part-at c = omega (arith, shape_facts _ c.requires.0, c.index-first.ensures.0, c.index-i-end.ensures.0)

pub bounds-part-at-then-takes_from : goal.bounds-part-at-then-takes_from
bounds-part-at-then-takes_from c = omega (arith, shape_facts _ c.requires.0, c.index-first.ensures.0, c.index-i-end.ensures.0)

pub returns-then-takes_from : goal.returns-then-takes_from
unfolding arc_at machine_of
returns-then-takes_from c =
    let pair = c.args.pair in
    step_stop _ _ _ _ pair _ (omega (arith, c.index-i-end.ensures.0)) (sym (c.takes_from.ensures pair c.set_of-input.ensures c.set_of-output.ensures) ∙ c.if-takes_from.true) (c.loop-i.invariant pair c.set_of-input.ensures c.set_of-output.ensures)

pub loop-i-preserved : goal.loop-i-preserved
loop-i-preserved c pair i o =
    ap₂ (λ (at n : ℕ). step_among (arcs_at c.args.part.now at n) c.args.self.state pair) (omega arith) (omega arith)
    ∙ step_go_on _ _ _ _ _ _ (omega (arith, c.index-i-end.ensures.0)) (sym (c.takes_from.ensures pair i o) ∙ c.if-takes_from.false) (c.loop-i.invariant pair i o)

pub returns : goal.returns
unfolding machine_of
returns c =
    let pair = c.args.pair in
    step_end _ _ _ _ pair _ (omega (arith, c.index-i-end.ensures.0)) (c.loop-i.invariant pair c.set_of-input.ensures c.set_of-output.ensures)
