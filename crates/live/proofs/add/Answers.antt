use Rattle.basics.specs.Words.{refl, sym, ap, ◌∙◌}
use Rattle.std.proofs.lemmas.Result.{err_from_is_err_and}
use Rattle.refusals.specs.Refusals.{checked_number}
use Rattle.refusals.proofs.Refusals.{number_positive, not_accepted}
use Rattle.live.specs.Rows.{refused_count}
use Rattle.live.proofs.Answers.{add_refused, add_done}
use Rattle.live.proofs.add.Goals as goal

pub returns-in_err-check_room : goal.returns-in_err-check_room
returns-in_err-check_room c =
    let p = err_from_is_err_and c.from_residual.result c.from_residual.ensures.1 in
    rw (p.1, p.2) (add_refused c.args.machines c.args.ranking.now c.args.count c.args.rows.now c.args.row (ap checked_number (sym c.in_err-check_room.was) ∙ c.check_room.ensures) (number_positive c.in_err-check_room.field-0.0) refl)

pub returns-in_err-put_in : goal.returns-in_err-put_in
returns-in_err-put_in c =
    let p = err_from_is_err_and c.from_residual-in_err-put_in.result c.from_residual-in_err-put_in.ensures.1 in
    rw (p.1, p.2) (add_done c.args.machines c.args.ranking.now c.args.count c.args.rows.now c.args.row c.check_room.ensures (ap checked_number c.in_ok-check_room.was)
    c.put_in.ensures.0 (ap checked_number (sym c.in_err-put_in.was) ∙ c.put_in.ensures.1) (sym (not_accepted _ _ refused_count (number_positive c.in_err-put_in.field-0.0))))

pub returns : goal.returns
returns c =
    add_done c.args.machines c.args.ranking.now c.args.count c.args.rows.now c.args.row c.check_room.ensures (ap checked_number c.in_ok-check_room.was)
    c.put_in.ensures.0 (ap checked_number (sym c.in_ok-put_in.was) ∙ c.put_in.ensures.1) refl
