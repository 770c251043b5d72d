use Rattle.std.proofs.Common.{Result, IfOk}
use Rattle.basics.proofs.Words.{refl, sym, ap, ◌∙◌, subst, length}
use Rattle.std.proofs.lemmas.Result.{err_from_is_err_and}
use Rattle.refusals.specs.declared.Refusal.{Refusal}
use Rattle.refusals.specs.Refusals.{checked_number}
use Rattle.refusals.proofs.Refusals.{number_positive, passed_number}
use Rattle.grid.specs.declared.Grid.{Grid}
use Rattle.grid.specs.Grids.{GridOf}
use Rattle.product.specs.Best.{best}
use Rattle.input.specs.AcceptedInput.{accepted_input}
use Rattle.tableau.specs.Judging.{verdict_numbers}
use Rattle.tableau.proofs.Answers.{input_refused, tableau_refused, verdict_given, some_best, can_be_read, by_profile}
use Rattle.tableau.proofs.judge.Goals as goal

pub returns-in_err-grid : goal.returns-in_err-grid
returns-in_err-grid c =
    let e = ap checked_number (sym c.in_err-grid.was) ∙ c.check_input.ensures.number in
    let p = err_from_is_err_and c.from_residual.result c.from_residual.ensures.1 in
    record {
      result = rw (p.1, p.2) (input_refused c.args.card.now c.args.ranking.now c.args.word.now (length c.args.work.now) c.args.tableau.now _ e (number_positive c.in_err-grid.field-0.0));
      work_length = refl;
      work_kept = λ _. refl;
    }

pub check_tableau-requires : goal.check_tableau-requires
check_tableau-requires c = (accepted_input _ _ _ _ (passed_number c.in_ok-grid.was c.check_input.ensures.number)).accepted

pub returns-in_err-check_tableau : goal.returns-in_err-check_tableau
returns-in_err-check_tableau c =
    let passed = passed_number c.in_ok-grid.was c.check_input.ensures.number in
    let e = ap checked_number (sym c.in_err-check_tableau.was) ∙ c.check_tableau.ensures in
    let p = err_from_is_err_and c.from_residual-in_err-check_tableau.result c.from_residual-in_err-check_tableau.ensures.1 in
    record {
      result = rw (p.1, p.2) (tableau_refused c.args.card.now c.args.ranking.now c.args.word.now (length c.args.work.now) c.args.tableau.now passed _ e (number_positive c.in_err-check_tableau.field-0.0));
      work_length = refl;
      work_kept = λ z. absurd (z passed);
    }

pub best_profile-best-requires : goal.best_profile-best-requires
best_profile-best-requires c =
    let passed = passed_number c.in_ok-grid.was c.check_input.ensures.number in
    let told = passed_number c.in_ok-check_tableau.was c.check_tableau.ensures in
    let P : Result Grid Refusal → Type 0 = λ r. IfOk r (GridOf c.args.card.now) in
    (passed, subst P c.in_ok-grid.was c.check_input.ensures.sizes, some_best c.args.card.now c.args.ranking.now c.args.word.now (length c.args.work.now) c.args.tableau.now passed told)

pub verdict_of-requires : goal.verdict_of-requires
verdict_of-requires c = can_be_read c.args.card.now c.args.word.now c.args.tableau.now (passed_number c.in_ok-check_tableau.was c.check_tableau.ensures)

pub returns : goal.returns
returns c =
    let passed = passed_number c.in_ok-grid.was c.check_input.ensures.number in
    let told = passed_number c.in_ok-check_tableau.was c.check_tableau.ensures in
    let o = best c.args.card.now c.args.ranking.now c.args.word.now in
    record {
      result = ap verdict_numbers (c.verdict_of.ensures ∙ by_profile o c.best_profile-best.result c.args.tableau.now c.best_profile-best.ensures.result)
          ∙ verdict_given c.args.card.now c.args.ranking.now c.args.word.now (length c.args.work.now) c.args.tableau.now passed told;
      work_length = c.best_profile-best.ensures.work_length;
      work_kept = λ z. absurd (z passed);
    }
