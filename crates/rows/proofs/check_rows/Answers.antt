use Rattle.basics.proofs.Words.{sym, ap, ◌∙◌, arith, every_start, every_next, one_below_fails}
use Rattle.refusals.proofs.Refusals.{refuses_with}
use Rattle.layout.specs.LaidOut.{part_within}
use Rattle.rows.specs.Tableau.{row_count, row_of, sound_row}
use Rattle.rows.proofs.check_rows.Goals as goal

pub loop-i-init : goal.loop-i-init
loop-i-init c = (omega arith, every_start (λ j. sound_row c.args.machines (row_of c.args.tableau.now j)))

pub part-requires : goal.part-requires
part-requires c = part_within (row_count c.args.tableau.now) c.args.tableau.now c.requires.1 c.loop-i.i (omega arith)

pub returns-then-not-is_sound_row : goal.returns-then-not-is_sound_row
returns-then-not-is_sound_row c =
    let e = c.is_sound_row.ensures ∙ ap (sound_row c.args.machines) c.part.ensures in
    sym (refuses_with 19 (one_below_fails (λ j. sound_row c.args.machines (row_of c.args.tableau.now j)) (row_count c.args.tableau.now) c.loop-i.i (omega arith) (sym e ∙ c.if-not-is_sound_row.true)))

pub loop-i-preserved : goal.loop-i-preserved
loop-i-preserved c =
    let e = c.is_sound_row.ensures ∙ ap (sound_row c.args.machines) c.part.ensures in
    (omega arith, every_next (λ j. sound_row c.args.machines (row_of c.args.tableau.now j)) c.loop-i.i c.loop-i.invariant.1 (sym e ∙ c.if-not-is_sound_row.false))
