use Rattle.basics.proofs.Words.{sym, ap, ◌∙◌, arith}
use Rattle.machine.specs.Machine.{take_one_pair}
use Rattle.machine.specs.Part.{state_count, arcs_of}
use Rattle.joined.specs.Laws.Writing.{row_one_more, row_no_more, row_end}
use Rattle.joined.proofs.Parts.{no_arc, arcs_length}
use Rattle.joined.proofs.row_count.Goals as goal
use Rattle.joined.proofs.row_count.Goals.{then-share_pair, else-share_pair}

pub loop-i-preserved : goal.loop-i-preserved
loop-i-preserved c =
    let a = c.args.arc in
    let second = c.args.second.now in
    let e = ap (take_one_pair a) (c.nth_arc-other.ensures no_arc) in
    let h = c.share_pair.ensures in
    elim c.if-share_pair.branch [
      | then-share_pair w ↦
          let q = row_one_more (state_count second) a (arcs_of second) c.loop-i.i no_arc (omega (arith, arcs_length second)) (e ∙ sym h ∙ w.if-share_pair.true) in
          (omega arith, omega arith, omega arith)
      | else-share_pair w ↦
          let q = row_no_more (state_count second) a (arcs_of second) c.loop-i.i no_arc (omega (arith, arcs_length second)) (e ∙ sym h ∙ w.if-share_pair.false) in
          (omega arith, omega arith, omega arith)
    ]

pub returns : goal.returns
returns c =
    let second = c.args.second.now in
    let e = row_end (state_count second) c.args.arc (arcs_of second) c.loop-i.i (omega (arith, arcs_length second)) in
    (omega (arith, e), omega (arith, c.type_inv.second 1))
