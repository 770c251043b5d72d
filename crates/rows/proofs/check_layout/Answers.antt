use Rattle.basics.proofs.Words.{sym, ap, ◌∙◌, arith}
use Rattle.refusals.specs.Refusals.{refuse}
use Rattle.refusals.proofs.Refusals.{refuses_with}
use Rattle.layout.specs.LaidOut.{layout_told}
use Rattle.rows.specs.Tableau.{row_count}
use Rattle.rows.proofs.Layouts.{no_head, bad_head, bad_layout, rows_decide}
use Rattle.rows.proofs.check_layout.Goals as goal

pub returns-then-tableau-lt2 : goal.returns-then-tableau-lt2
returns-then-tableau-lt2 c = sym (refuses_with 19 (no_head c.args.machines c.args.tableau.now (omega arith)))

pub returns-then-not-count-claimed : goal.returns-then-not-count-claimed
returns-then-not-count-claimed c =
    sym (refuses_with 19 (bad_head c.args.machines c.args.tableau.now (omega arith) c.if-not-count-claimed.true))

pub returns-then-not-is_laid_out : goal.returns-then-not-is_laid_out
returns-then-not-is_laid_out c =
    sym (refuses_with 19 (bad_layout c.args.machines c.args.tableau.now (omega arith) c.if-not-count-claimed.false
    (sym c.is_laid_out.ensures ∙ c.if-not-is_laid_out.true)))

pub check_rows-requires : goal.check_rows-requires
check_rows-requires c =
    (omega arith, layout_told (row_count c.args.tableau.now) c.args.tableau.now (sym c.is_laid_out.ensures ∙ c.if-not-is_laid_out.false), c.requires)

pub returns : goal.returns
returns c =
    let right = sym c.is_laid_out.ensures ∙ c.if-not-is_laid_out.false in
    c.check_rows.ensures ∙ ap (refuse 19) (sym (rows_decide c.args.machines c.args.tableau.now (omega arith) c.if-not-count-claimed.false right))
