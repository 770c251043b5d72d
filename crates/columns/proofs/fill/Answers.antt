use Rattle.std.specs.Prelude.{◌≡◌}
use Rattle.std.proofs.Common.{rules}
use Rattle.basics.proofs.Words.{refl, ◌∙◌, ℕ, arith, length, replicate}
use Rattle.card.specs.Card.{machines_of}
use Rattle.card.specs.Laws.Machines.{machine_at_lem}
use Rattle.machine.specs.Machine.{no_machine}
use Rattle.tables.specs.StepTable.{machine_at}
use Rattle.columns.specs.Filling.{MachineFilled}
use Rattle.columns.proofs.Filling.{narrow, filled_start, machine_below, places_there, machine_pre, filled_next, filled_end}
use Rattle.columns.proofs.fill.Goals as goal

pub loop-m-init : goal.loop-m-init
loop-m-init c =
    let n = length c.args.steps.now in
    let blank : c.fill.new.self ≡ replicate {A = ℕ} n 65535 = search rules in
    (refl, filled_start c.requires n c.partners-taken.result blank refl c.partners-taken.ensures)

pub part-requires : goal.part-requires
part-requires c =
    (c.requires.accepted, machine_below c.requires c.loop-m.invariant.1 c.loop-m-test.true)

pub fill_machine-taken-requires : goal.fill_machine-taken-requires
fill_machine-taken-requires c =
    machine_pre c.requires c.loop-m.invariant.1 c.loop-m-test.true c.part.ensures c.index-states.ensures.0

pub overflow_add-first : goal.overflow_add-first
overflow_add-first c =
    omega (arith, c.index-states.ensures.0, places_there c.requires c.loop-m.invariant.1 c.loop-m-test.true, narrow c.requires)

pub loop-m-preserved : goal.loop-m-preserved
loop-m-preserved c =
    let t = c.loop-m-test.true in
    let card = c.args.card.now in
    let h : MachineFilled (machine_at (machines_of card) c.loop-m.m) c.args.input c.args.width c.loop-m.first c.loop-m.steps c.fill_machine-taken.new.steps c.fill_machine-taken.result =
    rw (machine_at_lem card c.loop-m.m (machine_below c.requires c.loop-m.invariant.1 t) no_machine, ← c.part.ensures) (c.fill_machine-taken.ensures c.args.input c.set_of-set.ensures) in
    (c.fill_machine-taken.auto.steps ∙ c.loop-m.invariant.0, filled_next c.requires c.loop-m.invariant.1 t c.index-states.result c.fill_machine-taken.result c.index-states.ensures.0 h)
