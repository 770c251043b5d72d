use Rattle.basics.proofs.Words.{ap, arith, length}
use Rattle.machine.specs.declared.Arc.{Arc}
use Rattle.machine.specs.Part.{state_count, arcs_of}
use Rattle.joined.specs.JoinedMachine.{arcs_with}
use Rattle.joined.specs.Laws.Writing.{rows_more, rows_end}
use Rattle.joined.proofs.Parts.{no_arc, arcs_length}
use Rattle.joined.proofs.arc_count.Goals as goal

pub loop-i-preserved : goal.loop-i-preserved
loop-i-preserved c =
    let first = c.args.first.now in
    let second = c.args.second.now in
    let q = rows_more (state_count second) (arcs_of first) (arcs_of second) c.loop-i.i no_arc (omega (arith, arcs_length first)) in
    let e = ap (λ (a : Arc). length (arcs_with (state_count second) (arcs_of second) a)) (c.nth_arc-arc.ensures no_arc) in
    (omega arith, omega (arith, c.row_count-count.ensures.1), omega (arith, c.row_count-count.ensures.0, e, q, c.loop-i.invariant.2))

pub returns : goal.returns
returns c =
    let first = c.args.first.now in
    let second = c.args.second.now in
    let e = rows_end (state_count second) (arcs_of first) (arcs_of second) c.loop-i.i (omega (arith, arcs_length first)) in
    (omega (arith, e, c.loop-i.invariant.2), omega (arith, c.type_inv.first 1))
