use Rattle.std.proofs.Common.{refl, sym, ap, ◌∙◌, arith}
use Rattle.std.proofs.lemmas.Result.{err_from_is_err_and}
use Rattle.refusals.specs.Refusals.{checked_number}
use Rattle.refusals.proofs.Refusals.{passed_number, number_positive}
use Rattle.readout.proofs.WordCalls.{word_few, word_fit, word_given}
use Rattle.optimizer.proofs.Answers.{call_refused, call_searched, word_best_small, front_room, same_room}
use Rattle.optimizer.proofs.optimize_by.Goals as goal

pub returns-in_err-grid : goal.returns-in_err-grid
returns-in_err-grid g c =
    let p = err_from_is_err_and c.from_residual.result c.from_residual.ensures.1 in
    rw (p.1, p.2) (call_refused (word_best_small _ _ _ _) _ (sym (ap checked_number c.in_err-grid.was) ∙ c.check_input.ensures.number) (number_positive c.in_err-grid.field-0.0) refl)

pub overflow_mul-nodes : goal.overflow_mul-nodes
overflow_mul-nodes g c = omega (arith, word_few _ _ _ _ (passed_number c.in_ok-grid.was c.check_input.ensures.number) c.in_ok-grid.grid.size (c.in_ok-grid.ensures.sizes).size)

pub overflow_mul-nodes-2 : goal.overflow_mul-nodes-2
overflow_mul-nodes-2 g c = omega (arith, word_few _ _ _ _ (passed_number c.in_ok-grid.was c.check_input.ensures.number) c.in_ok-grid.grid.size (c.in_ok-grid.ensures.sizes).size)

pub slice_bounds-search-end : goal.slice_bounds-search-end
slice_bounds-search-end g c = word_fit _ _ _ _ (passed_number c.in_ok-grid.was c.check_input.ensures.number) c.in_ok-grid.grid.size (c.in_ok-grid.ensures.sizes).size

pub slice_bounds-search-end-2 : goal.slice_bounds-search-end-2
slice_bounds-search-end-2 g c = sym (front_room _ _ (word_fit _ _ _ _ (passed_number c.in_ok-grid.was c.check_input.ensures.number) c.in_ok-grid.grid.size (c.in_ok-grid.ensures.sizes).size))

pub search-requires : goal.search-requires
search-requires g c =
    (word_given _ _ _ _ (passed_number c.in_ok-grid.was c.check_input.ensures.number) c.in_ok-grid.grid.size (c.in_ok-grid.ensures.sizes).size (front_room _ _ (word_fit _ _ _ _ (passed_number c.in_ok-grid.was c.check_input.ensures.number) c.in_ok-grid.grid.size (c.in_ok-grid.ensures.sizes).size)), (c.in_ok-grid.ensures.sizes))

pub returns : goal.returns
returns g c =
    let fits = word_fit _ _ _ _ (passed_number c.in_ok-grid.was c.check_input.ensures.number) c.in_ok-grid.grid.size (c.in_ok-grid.ensures.sizes).size in
    call_searched (word_best_small _ _ _ _) (passed_number c.in_ok-grid.was c.check_input.ensures.number) (same_room _ c.args.work.now c.search.new.work fits c.search.ensures.work_length) c.search.ensures
