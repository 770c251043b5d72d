use Rattle.std.specs.Prelude.{◌-◌}
use Rattle.basics.specs.Words.{sym, ap, ◌∙◌, ℕ, arith}
use Rattle.std.proofs.lemmas.Result.{err_from_is_err_and}
use Rattle.refusals.specs.Refusals.{checked_number}
use Rattle.live.specs.Steps.{closing}
use Rattle.live.proofs.Places.{placed, found, not_taken, taken, present_refused, present_passed}
use Rattle.live.proofs.take_out.Goals as goal

pub returns-in_err-check_present : goal.returns-in_err-check_present
returns-in_err-check_present c =
    let is = placed c.args.id c.args.count c.args.rows.now c.requires c.find.ensures c.unwrap_or-at.ensures in
    let gone = present_refused c.args.id c.args.count c.args.rows.now c.requires c.unwrap_or-at.result is c.in_err-check_present.was c.check_present.ensures in
    let p = err_from_is_err_and c.from_residual.result c.from_residual.ensures.1 in
    (not_taken c.args.id c.args.count c.args.rows.now c.requires gone.0, rw (p.1, p.2) (ap checked_number (sym c.in_err-check_present.was) ∙ gone.1))

pub overflow_sub-count : goal.overflow_sub-count
overflow_sub-count c =
    let is = placed c.args.id c.args.count c.args.rows.now c.requires c.find.ensures c.unwrap_or-at.ensures in
    let seen = present_passed c.args.id c.args.count c.args.rows.now c.requires c.unwrap_or-at.result is c.in_ok-check_present.was c.check_present.ensures in
    omega (arith, found c.args.id c.args.count c.args.rows.now c.requires seen.0)

pub close_gap-requires : goal.close_gap-requires
close_gap-requires c =
    let is = placed c.args.id c.args.count c.args.rows.now c.requires c.find.ensures c.unwrap_or-at.ensures in
    let seen = present_passed c.args.id c.args.count c.args.rows.now c.requires c.unwrap_or-at.result is c.in_ok-check_present.was c.check_present.ensures in
    let below = found c.args.id c.args.count c.args.rows.now c.requires seen.0 in
    (omega (arith, below, is), omega (arith, below, c.requires))

pub returns : goal.returns
returns c =
    let is = placed c.args.id c.args.count c.args.rows.now c.requires c.find.ensures c.unwrap_or-at.ensures in
    let seen = present_passed c.args.id c.args.count c.args.rows.now c.requires c.unwrap_or-at.result is c.in_ok-check_present.was c.check_present.ensures in
    (c.close_gap.ensures ∙ ap (λ (n : ℕ). closing n (c.args.count - 1) c.args.rows.now) is ∙ taken c.args.id c.args.count c.args.rows.now c.requires seen.0, ap checked_number (sym c.in_ok-check_present.was) ∙ seen.1)
