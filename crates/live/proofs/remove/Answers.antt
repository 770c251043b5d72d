use Rattle.basics.specs.Words.{refl, sym, ap, ◌∙◌}
use Rattle.std.proofs.lemmas.Result.{err_from_is_err_and}
use Rattle.refusals.specs.Refusals.{checked_number}
use Rattle.refusals.proofs.Refusals.{number_positive, not_accepted}
use Rattle.live.specs.Rows.{refused_count}
use Rattle.live.proofs.Answers.{remove_refused, remove_done, some_removed}
use Rattle.live.proofs.remove.Goals as goal

pub returns-in_err-check_rows : goal.returns-in_err-check_rows
returns-in_err-check_rows c =
    let p = err_from_is_err_and c.from_residual.result c.from_residual.ensures.1 in
    rw (p.1, p.2) (remove_refused c.args.machines c.args.ranking.now c.args.count c.args.rows.now c.args.id (ap checked_number (sym c.in_err-check_rows.was) ∙ c.check_rows.ensures) (number_positive c.in_err-check_rows.field-0.0) refl)

pub returns-in_err-take_out : goal.returns-in_err-take_out
returns-in_err-take_out c =
    let p = err_from_is_err_and c.from_residual-in_err-take_out.result c.from_residual-in_err-take_out.ensures.1 in
    rw (p.1, p.2) (remove_done c.args.machines c.args.ranking.now c.args.count c.args.rows.now c.args.id c.check_rows.ensures (ap checked_number c.in_ok-check_rows.was)
    c.take_out.ensures.0 (ap checked_number (sym c.in_err-take_out.was) ∙ c.take_out.ensures.1) (sym (not_accepted _ _ refused_count (number_positive c.in_err-take_out.field-0.0))))

pub overflow_sub-result : goal.overflow_sub-result
overflow_sub-result c =
    some_removed c.args.machines c.args.ranking.now c.args.count c.args.rows.now c.args.id c.take_out.ensures.1 (ap checked_number c.in_ok-take_out.was)

pub returns : goal.returns
returns c =
    remove_done c.args.machines c.args.ranking.now c.args.count c.args.rows.now c.args.id c.check_rows.ensures (ap checked_number c.in_ok-check_rows.was)
    c.take_out.ensures.0 (ap checked_number (sym c.in_ok-take_out.was) ∙ c.take_out.ensures.1) refl
