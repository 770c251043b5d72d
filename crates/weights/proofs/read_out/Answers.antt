use Rattle.std.specs.Prelude.{◌≡◌, ℕ, ◌*◌}
use Rattle.std.proofs.Common.{refl, sym, ◌∙◌, ap, length, get_or, take, length-take-le, arith}
use Rattle.card.specs.Card.{machines_of}
use Rattle.product.specs.Nodes.{state_counts}
use Rattle.product.specs.ProductGraph.{card_start}
use Rattle.std.proofs.lemmas.Result.{err_from_is_err_and}
use Rattle.refusals.specs.Refusals.{checked_number}
use Rattle.refusals.proofs.Refusals.{passed_number, number_positive}
use Rattle.tables.proofs.Prefix.{front_is}
use Rattle.cells.specs.Columns.{WeightsOf}
use Rattle.weighted.specs.WeighsBy.{WeighsBy}
use Rattle.labelling.proofs.Sizes.{counts_fit, machines_few, counts_length, counts_some, in_front_lem}
use Rattle.weighted.proofs.Preparing.{counts_weigh}
use Rattle.weights.proofs.Reading.{label_ready, start_in, start_few, refused_answered, walk_ready, pairs_few, best_answered}
use Rattle.weights.proofs.read_out.Goals as goal

-- ---- the sizes: the state counts stand in front of six numbers
pub slice_bounds-all-end : goal.slice_bounds-all-end
slice_bounds-all-end c = counts_fit c.requires.0.setting.accepted c.requires.2

pub slice_bounds-counts-end : goal.slice_bounds-counts-end
slice_bounds-counts-end c = counts_length c.requires.0.setting.accepted c.requires.2

-- ---- the start is found, and its number
pub offset_bounds-work-start_node : goal.offset_bounds-work-start_node
offset_bounds-work-start_node c =
    let start : c.start_node.result ≡ card_start c.args.card.now = c.start_node.ensures (machines_of c.args.card.now) (front_is c.args.card.now c.requires.0.setting.accepted c.args.grid.counts c.args.grid.machines c.requires.2.machines c.requires.2.counts) in
    omega (arith, start_few c.requires.0 c.requires.1)

pub bounds-work-start_node : goal.bounds-work-start_node
bounds-work-start_node c =
    let start : c.start_node.result ≡ card_start c.args.card.now = c.start_node.ensures (machines_of c.args.card.now) (front_is c.args.card.now c.requires.0.setting.accepted c.args.grid.counts c.args.grid.machines c.requires.2.machines c.requires.2.counts) in
    omega (arith, start_in c.requires.0 c.requires.1)

pub returns-in_err-check_best : goal.returns-in_err-check_best
returns-in_err-check_best c =
    let start : c.start_node.result ≡ card_start c.args.card.now = c.start_node.ensures (machines_of c.args.card.now) (front_is c.args.card.now c.requires.0.setting.accepted c.args.grid.counts c.args.grid.machines c.requires.2.machines c.requires.2.counts) in
    let p = err_from_is_err_and c.from_residual.result c.from_residual.ensures.1 in
    rw (p.1, p.2)
    (refused_answered c.requires.0 c.requires.1 _ (ap (λ (u : ℕ). get_or c.args.work.now u 0) start) c.args.answer.now _ _ (sym (ap checked_number c.in_err-check_best.was) ∙ c.check_best.ensures)
    (number_positive c.in_err-check_best.field-0.0) refl)

-- ---- the numbers of the machines
pub weights_of-numbers-requires : goal.weights_of-numbers-requires
weights_of-numbers-requires c =
    (counts_some c.requires.0.setting.accepted c.requires.2, counts_weigh (label_ready c.requires.0) c.requires.2)

pub overflow_mul-numbers : goal.overflow_mul-numbers
overflow_mul-numbers c = omega (arith, machines_few c.requires.0.setting.accepted c.requires.2)

pub slice_bounds-numbers-end : goal.slice_bounds-numbers-end
slice_bounds-numbers-end c = omega (arith, machines_few c.requires.0.setting.accepted c.requires.2, c.weights_of-numbers.ensures.2)

pub slice_bounds-walk-end-2 : goal.slice_bounds-walk-end-2
slice_bounds-walk-end-2 c =
    sym (length-take-le (3 * c.args.grid.machines) c.weights_of-numbers.result (omega (arith, machines_few c.requires.0.setting.accepted c.requires.2, c.weights_of-numbers.ensures.2)))

-- ---- the walk
pub walk-written-requires : goal.walk-written-requires
walk-written-requires c =
    let ok = c.requires.0.setting.accepted in
    let counts_are : take c.args.grid.machines c.args.grid.counts ≡ state_counts (machines_of c.args.card.now) = front_is c.args.card.now ok c.args.grid.counts c.args.grid.machines c.requires.2.machines c.requires.2.counts in
    let start : c.start_node.result ≡ card_start c.args.card.now = c.start_node.ensures (machines_of c.args.card.now) counts_are in
    let weights_here = in_front_lem ok c.requires.2 (WeightsOf (take c.args.grid.machines c.args.grid.counts)) c.weights_of-numbers.result c.weights_of-numbers.ensures.0 in
    let weighs_here = in_front_lem ok c.requires.2 (WeighsBy c.args.weights.now) c.weights_of-numbers.result c.weights_of-numbers.ensures.1 in
    walk_ready c.requires.0 c.requires.1 _ (ap (λ (u : ℕ). get_or c.args.work.now u 0) start) c.args.answer.now (passed_number c.in_ok-check_best.was c.check_best.ensures) counts_are weights_here weighs_here

pub overflow_cast-result : goal.overflow_cast-result
overflow_cast-result c =
    let ok = c.requires.0.setting.accepted in
    let counts_are : take c.args.grid.machines c.args.grid.counts ≡ state_counts (machines_of c.args.card.now) = front_is c.args.card.now ok c.args.grid.counts c.args.grid.machines c.requires.2.machines c.requires.2.counts in
    let start : c.start_node.result ≡ card_start c.args.card.now = c.start_node.ensures (machines_of c.args.card.now) counts_are in
    let weights_here = in_front_lem ok c.requires.2 (WeightsOf (take c.args.grid.machines c.args.grid.counts)) c.weights_of-numbers.result c.weights_of-numbers.ensures.0 in
    let weighs_here = in_front_lem ok c.requires.2 (WeighsBy c.args.weights.now) c.weights_of-numbers.result c.weights_of-numbers.ensures.1 in
    omega (arith, pairs_few c.requires.0 c.requires.1 _ (ap (λ (u : ℕ). get_or c.args.work.now u 0) start) c.args.answer.now (passed_number c.in_ok-check_best.was c.check_best.ensures) counts_are weights_here weighs_here c.walk-written.ensures)

pub overflow_cast-result-2 : goal.overflow_cast-result-2
overflow_cast-result-2 c = omega (arith, c.requires.0.setting.few)

pub returns : goal.returns
returns c =
    let ok = c.requires.0.setting.accepted in
    let counts_are : take c.args.grid.machines c.args.grid.counts ≡ state_counts (machines_of c.args.card.now) = front_is c.args.card.now ok c.args.grid.counts c.args.grid.machines c.requires.2.machines c.requires.2.counts in
    let start : c.start_node.result ≡ card_start c.args.card.now = c.start_node.ensures (machines_of c.args.card.now) counts_are in
    let weights_here = in_front_lem ok c.requires.2 (WeightsOf (take c.args.grid.machines c.args.grid.counts)) c.weights_of-numbers.result c.weights_of-numbers.ensures.0 in
    let weighs_here = in_front_lem ok c.requires.2 (WeighsBy c.args.weights.now) c.weights_of-numbers.result c.weights_of-numbers.ensures.1 in
    best_answered c.requires.0 c.requires.1 _ (ap (λ (u : ℕ). get_or c.args.work.now u 0) start) c.args.answer.now (passed_number c.in_ok-check_best.was c.check_best.ensures) counts_are weights_here weighs_here c.walk-written.ensures
