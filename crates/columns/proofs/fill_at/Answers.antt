use Rattle.std.specs.Prelude.{◌≡◌}
use Rattle.std.proofs.Common.{rules}
use Rattle.basics.proofs.Words.{refl, ◌∙◌, ℕ, arith, length, get_or, replicate}
use Rattle.card.specs.Card.{machines_of}
use Rattle.card.specs.Laws.Machines.{machine_at_lem}
use Rattle.machine.specs.Machine.{no_machine}
use Rattle.tables.specs.StepTable.{machine_at}
use Rattle.columns.specs.AtHand.{StateFilled}
use Rattle.columns.proofs.AtHand.{counts_long, hand_start, machine_there, state_pre, hand_next, hand_end}
use Rattle.columns.proofs.fill_at.Goals as goal

pub loop-m-init : goal.loop-m-init
loop-m-init c =
    let n = length c.args.steps.now in
    let blank : c.fill.new.self ≡ replicate {A = ℕ} n 65535 = search rules in
    (refl, hand_start c.requires.0 c.requires.1 n c.partners-taken.result blank refl c.partners-taken.ensures)

pub part-requires : goal.part-requires
part-requires c =
    (c.requires.0.accepted, machine_there c.requires.0 c.requires.1 c.loop-m.invariant.1 c.loop-m-test.true)

pub fill_state-taken-requires : goal.fill_state-taken-requires
fill_state-taken-requires c =
    state_pre c.requires.0 c.requires.1 c.loop-m.invariant.1 c.loop-m-test.true c.part.ensures c.index-count.ensures.0

pub loop-m-preserved : goal.loop-m-preserved
loop-m-preserved c =
    let t = c.loop-m-test.true in
    let card = c.args.card.now in
    let states = c.args.states.now in
    let h : StateFilled (machine_at (machines_of card) c.loop-m.m) (get_or states c.loop-m.m 0) c.args.input (length states) c.loop-m.m c.loop-m.steps c.fill_state-taken.new.steps c.fill_state-taken.result =
    rw (machine_at_lem card c.loop-m.m (machine_there c.requires.0 c.requires.1 c.loop-m.invariant.1 t) no_machine, ← c.part.ensures) (c.fill_state-taken.ensures c.args.input c.set_of-set.ensures) in
    (c.fill_state-taken.auto.steps ∙ c.loop-m.invariant.0, hand_next c.requires.0 c.requires.1 c.loop-m.invariant.1 t c.fill_state-taken.result h)
