use Rattle.std.proofs.Common.{refl, sym, ap, ◌∙◌, arith}
use Rattle.std.proofs.lemmas.Result.{err_from_is_err_and}
use Rattle.refusals.specs.Refusals.{checked_number}
use Rattle.refusals.proofs.Refusals.{passed_number, number_positive}
use Rattle.readout.proofs.SetsCalls.{sets_few, sets_fit, sets_given}
use Rattle.optimizer.proofs.Answers.{call_refused, call_searched, sets_best_small, front_room, same_room}
use Rattle.optimizer.proofs.optimize_sets_by.Goals as goal

pub returns-in_err-grid : goal.returns-in_err-grid
returns-in_err-grid g c =
    let p = err_from_is_err_and c.from_residual.result c.from_residual.ensures.1 in
    rw (p.1, p.2) (call_refused (sets_best_small _ _ _ _) _ (sym (ap checked_number c.in_err-grid.was) ∙ c.check_sets_input.ensures.number) (number_positive c.in_err-grid.field-0.0) refl)

pub overflow_mul-nodes : goal.overflow_mul-nodes
overflow_mul-nodes g c = omega (arith, sets_few _ _ _ _ (passed_number c.in_ok-grid.was c.check_sets_input.ensures.number) c.in_ok-grid.grid.size (c.in_ok-grid.ensures.sizes).size)

pub overflow_mul-nodes-2 : goal.overflow_mul-nodes-2
overflow_mul-nodes-2 g c = omega (arith, sets_few _ _ _ _ (passed_number c.in_ok-grid.was c.check_sets_input.ensures.number) c.in_ok-grid.grid.size (c.in_ok-grid.ensures.sizes).size)

pub slice_bounds-search_sets-end : goal.slice_bounds-search_sets-end
slice_bounds-search_sets-end g c = sets_fit _ _ _ _ (passed_number c.in_ok-grid.was c.check_sets_input.ensures.number) c.in_ok-grid.grid.size (c.in_ok-grid.ensures.sizes).size

pub slice_bounds-search_sets-end-2 : goal.slice_bounds-search_sets-end-2
slice_bounds-search_sets-end-2 g c = sym (front_room _ _ (sets_fit _ _ _ _ (passed_number c.in_ok-grid.was c.check_sets_input.ensures.number) c.in_ok-grid.grid.size (c.in_ok-grid.ensures.sizes).size))

pub search_sets-requires : goal.search_sets-requires
search_sets-requires g c =
    (sets_given _ _ _ _ (passed_number c.in_ok-grid.was c.check_sets_input.ensures.number) c.in_ok-grid.grid.size (c.in_ok-grid.ensures.sizes).size (front_room _ _ (sets_fit _ _ _ _ (passed_number c.in_ok-grid.was c.check_sets_input.ensures.number) c.in_ok-grid.grid.size (c.in_ok-grid.ensures.sizes).size)), (c.in_ok-grid.ensures.sizes))

pub returns : goal.returns
returns g c =
    let fits = sets_fit _ _ _ _ (passed_number c.in_ok-grid.was c.check_sets_input.ensures.number) c.in_ok-grid.grid.size (c.in_ok-grid.ensures.sizes).size in
    call_searched (sets_best_small _ _ _ _) (passed_number c.in_ok-grid.was c.check_sets_input.ensures.number) (same_room _ c.args.work.now c.search_sets.new.work fits c.search_sets.ensures.work_length) c.search_sets.ensures
