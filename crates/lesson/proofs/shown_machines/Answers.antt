use Rattle.basics.proofs.Words.{sym, ◌∙◌, zero-le, arith}
use Rattle.refusals.proofs.Refusals.{err_number, ok_number}
use Rattle.lesson.specs.TallyLaws.{shown_few}
use Rattle.lesson.proofs.Tallies.{shown_none, shown_all}
use Rattle.lesson.proofs.shown_machines.Goals as goal

pub returns-then-is_err : goal.returns-then-is_err
returns-then-is_err c =
    (shown_none c.args.card.now (rw c.check.ensures at (err_number c.check.result (sym c.is_err.ensures.value ∙ c.if-is_err.true))), zero-le)

pub returns : goal.returns
returns c =
    let card = c.args.card.now in
    let e = c.machine_count.ensures ∙ shown_all card (sym c.check.ensures ∙ ok_number c.check.result (sym c.is_err.ensures.value ∙ c.if-is_err.false)) in
    (e, omega (arith, e, shown_few card))
