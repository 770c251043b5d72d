use Rattle.std.proofs.Common.{refl, sym, ap, ◌∙◌, arith}
use Rattle.std.proofs.lemmas.Result.{err_from_is_err_and}
use Rattle.refusals.specs.Refusals.{checked_number}
use Rattle.refusals.proofs.Refusals.{passed_number, number_positive}
use Rattle.optimizer.proofs.Answers.{front_room, same_room}
use Rattle.weights.proofs.Accepting.{accepts}
use Rattle.weights.proofs.Checking.{nodes_few, nodes_fit}
use Rattle.weights.proofs.Answering.{call_refused, call_searched}
use Rattle.weights.proofs.optimize.Goals as goal

pub returns-in_err-grid : goal.returns-in_err-grid
returns-in_err-grid c =
    let p = err_from_is_err_and c.from_residual.result c.from_residual.ensures.1 in
    rw (p.1, p.2) (call_refused _ (sym (ap checked_number c.in_err-grid.was) ∙ c.check_input.ensures.number) (number_positive c.in_err-grid.field-0.0) refl)

pub overflow_mul-nodes : goal.overflow_mul-nodes
overflow_mul-nodes c =
    let z = passed_number c.in_ok-grid.was c.check_input.ensures.number in
    omega (arith, nodes_few (accepts _ _ _ _ z) c.in_ok-grid.grid (c.in_ok-grid.ensures.sizes))

pub slice_bounds-search-end : goal.slice_bounds-search-end
slice_bounds-search-end c =
    let z = passed_number c.in_ok-grid.was c.check_input.ensures.number in
    nodes_fit (accepts _ _ _ _ z) c.in_ok-grid.grid (c.in_ok-grid.ensures.sizes)

pub slice_bounds-search-end-2 : goal.slice_bounds-search-end-2
slice_bounds-search-end-2 c =
    let z = passed_number c.in_ok-grid.was c.check_input.ensures.number in
    sym (front_room _ _ (nodes_fit (accepts _ _ _ _ z) c.in_ok-grid.grid (c.in_ok-grid.ensures.sizes)))

pub search-requires : goal.search-requires
search-requires c =
    let z = passed_number c.in_ok-grid.was c.check_input.ensures.number in
    let a = accepts _ _ _ _ z in
    let s = c.in_ok-grid.ensures.sizes in
    (record { accepted = a.accepted; weighs = a.weighs; sound = a.sound; states = s.size; room = front_room _ _ (nodes_fit a c.in_ok-grid.grid s) }, s)

pub returns : goal.returns
returns c =
    let z = passed_number c.in_ok-grid.was c.check_input.ensures.number in
    let fits = nodes_fit (accepts _ _ _ _ z) c.in_ok-grid.grid (c.in_ok-grid.ensures.sizes) in
    call_searched z (same_room _ c.args.work.now c.search.new.work fits c.search.ensures.searched.work_length) c.search.ensures
