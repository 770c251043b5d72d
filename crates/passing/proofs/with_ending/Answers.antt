use Rattle.basics.specs.Words.{refl, sym, ◌∙◌, ap, List, ℕ, arith, get_or}
use Rattle.machine.specs.Machine.{Machine, no_machine, ending_of}
use Rattle.machine.specs.Part.{machine_of}
use Rattle.machine.specs.Accepted.{accepted as part_accepted}
use Rattle.card.specs.Layout.{symbol_count, part_of}
use Rattle.card.specs.Accepted.{accepted}
use Rattle.card.specs.Laws.Machines.{machine_at_lem}
use Rattle.passing.proofs.Ending.{machine_there, ended_start, in_sums, sum_fits, ended_next, ended_end}
use Rattle.passing.proofs.with_ending.Goals as goal

pub loop-m-init : goal.loop-m-init
loop-m-init c =
    ended_start c.requires

pub part-requires : goal.part-requires
part-requires c =
    (c.requires.accepted, machine_there c.requires _ c.loop-m-test.true)

pub ending_marks-requires : goal.ending_marks-requires
ending_marks-requires c =
    let card = c.args.card.now in
    rw c.part.ensures (part_accepted (symbol_count card) (part_of card c.loop-m.m) ((accepted card c.requires.accepted).part c.loop-m.m (machine_there c.requires _ c.loop-m-test.true))).shape

pub offset_bounds-sums-m : goal.offset_bounds-sums-m
offset_bounds-sums-m c =
    omega (arith, in_sums c.requires c.loop-m.invariant c.loop-m-test.true, c.loop-m.invariant.size)

pub bounds-sums-m : goal.bounds-sums-m
bounds-sums-m c =
    omega (arith, in_sums c.requires c.loop-m.invariant c.loop-m-test.true, c.loop-m.invariant.size)

pub overflow_add-sums : goal.overflow_add-sums
overflow_add-sums c =
    omega (arith, c.ending_marks.ensures.1, sum_fits c.requires c.loop-m.invariant)

pub bounds-sums-m-in-loop-m : goal.bounds-sums-m-in-loop-m
bounds-sums-m-in-loop-m c =
    omega (arith, in_sums c.requires c.loop-m.invariant c.loop-m-test.true, c.loop-m.invariant.size)

pub loop-m-preserved : goal.loop-m-preserved
loop-m-preserved c =
    let card = c.args.card.now in
    let m = c.loop-m.m in
    let h = c.loop-m-test.true in
    ended_next c.requires c.loop-m.invariant h c.ending_marks.result _
    (λ n e.
    c.ending_marks.ensures.0 n
    (ap (λ (l : List ℕ). ending_of (machine_of l) (get_or c.args.states.now m 0)) c.part.ensures
    ∙ ap (λ (x : Machine). ending_of x (get_or c.args.states.now m 0)) (sym (machine_at_lem card m (machine_there c.requires m h) no_machine))
    ∙ e))
    refl

pub returns : goal.returns
returns c =
    ended_end c.requires c.loop-m.invariant c.loop-m-test.false
