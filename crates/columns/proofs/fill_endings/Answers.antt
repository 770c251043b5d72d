use Rattle.basics.proofs.Words.{arith}
use Rattle.card.specs.Card.{machines_of}
use Rattle.card.specs.Laws.Machines.{machine_at_lem}
use Rattle.machine.specs.Machine.{no_machine}
use Rattle.tables.specs.StepTable.{machine_at}
use Rattle.columns.specs.Endings.{PartEndings}
use Rattle.columns.proofs.Endings.{endings_start, machine_below, places_there, endings_pre, endings_next, endings_end}
use Rattle.columns.proofs.fill_endings.Goals as goal

pub loop-m-init : goal.loop-m-init
loop-m-init c =
    endings_start c.requires

pub part-requires : goal.part-requires
part-requires c =
    (c.requires.accepted, machine_below c.requires c.loop-m.invariant c.loop-m-test.true)

pub fill_part_endings-requires : goal.fill_part_endings-requires
fill_part_endings-requires c =
    endings_pre c.requires c.loop-m.invariant c.loop-m-test.true c.part.ensures c.index-states.ensures.0

pub overflow_add-first : goal.overflow_add-first
overflow_add-first c =
    omega (arith, c.index-states.ensures.0, places_there c.requires c.loop-m.invariant c.loop-m-test.true)

pub loop-m-preserved : goal.loop-m-preserved
loop-m-preserved c =
    let t = c.loop-m-test.true in
    let card = c.args.card.now in
    let h : PartEndings (machine_at (machines_of card) c.loop-m.m) c.loop-m.first c.loop-m.steps c.fill_part_endings.new.steps =
    rw (machine_at_lem card c.loop-m.m (machine_below c.requires c.loop-m.invariant t) no_machine, ← c.part.ensures) c.fill_part_endings.ensures in
    endings_next c.requires c.loop-m.invariant t c.index-states.result c.index-states.ensures.0 h
