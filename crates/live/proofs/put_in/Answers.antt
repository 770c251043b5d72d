use Rattle.std.specs.Prelude.{◌≤◌}
use Rattle.basics.specs.Words.{sym, ap, ◌∙◌, arith, length}
use Rattle.std.proofs.lemmas.Result.{err_from_is_err_and}
use Rattle.refusals.specs.Refusals.{checked_number}
use Rattle.live.proofs.Places.{placed, not_put, put, absent_refused, absent_passed}
use Rattle.live.proofs.put_in.Goals as goal

pub returns-in_err-check_absent : goal.returns-in_err-check_absent
returns-in_err-check_absent c =
    let h : c.args.count ≤ length c.args.rows.now = omega arith in
    let is = placed c.args.row.id c.args.count c.args.rows.now h c.find.ensures c.unwrap_or-at.ensures in
    let found = absent_refused c.args.row.id c.args.count c.args.rows.now h c.unwrap_or-at.result is c.in_err-check_absent.was c.check_absent.ensures in
    let p = err_from_is_err_and c.from_residual.result c.from_residual.ensures.1 in
    (not_put c.args.count c.args.rows.now c.args.row h found.0, rw (p.1, p.2) (ap checked_number (sym c.in_err-check_absent.was) ∙ found.1))

pub returns : goal.returns
returns c =
    let h : c.args.count ≤ length c.args.rows.now = omega arith in
    let is = placed c.args.row.id c.args.count c.args.rows.now h c.find.ensures c.unwrap_or-at.ensures in
    let gone = absent_passed c.args.row.id c.args.count c.args.rows.now h c.unwrap_or-at.result is c.in_ok-check_absent.was c.check_absent.ensures in
    (put c.args.count c.args.rows.now c.args.row h gone.0, ap checked_number (sym c.in_ok-check_absent.was) ∙ gone.1)
