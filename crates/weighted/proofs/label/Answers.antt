use Rattle.std.specs.Prelude.{◌≡◌, true, List, ℕ, ◌*◌}
use Rattle.std.proofs.Common.{[], sym, subst, length, take, arith}
use Rattle.ranking.specs.Rankings.{is_ranking}
use Rattle.card.specs.Card.{machines_of}
use Rattle.product.specs.Nodes.{state_counts}
use Rattle.tables.specs.Places.{six_places}
use Rattle.cells.specs.Columns.{WeightsOf}
use Rattle.insertions.specs.RankedWeights.{RankedWeights}
use Rattle.labelling.specs.Labelling.{SearchPre}
use Rattle.labelling.proofs.Sizes.{counts_fit, counts_length, counts_some, machines_few, weights_front_length, weights_front, in_front_lem}
use Rattle.weighted.specs.WeighsBy.{WeighsBy}
use Rattle.weighted.specs.FirstPlace.{card_places, first_put}
use Rattle.weighted.proofs.Preparing.{counts_weigh, some_weights, six_machines, counts_ranked, put_length, order_length, search_ready, label_done}
use Rattle.weighted.proofs.label.Goals as goal

pub slice_bounds-all-end : goal.slice_bounds-all-end
slice_bounds-all-end c = counts_fit c.requires.0.setting.accepted c.requires.1

pub slice_bounds-counts-end : goal.slice_bounds-counts-end
slice_bounds-counts-end c = counts_length c.requires.0.setting.accepted c.requires.1

pub weights_of-numbers-requires : goal.weights_of-numbers-requires
weights_of-numbers-requires c =
    (counts_some c.requires.0.setting.accepted c.requires.1, counts_weigh c.requires.0 c.requires.1)

pub overflow_mul-numbers : goal.overflow_mul-numbers
overflow_mul-numbers c = omega (arith, machines_few c.requires.0.setting.accepted c.requires.1)

pub slice_bounds-numbers-end : goal.slice_bounds-numbers-end
slice_bounds-numbers-end c = omega (arith, machines_few c.requires.0.setting.accepted c.requires.1, c.weights_of-numbers.ensures.2)

pub slice_bounds-used-end : goal.slice_bounds-used-end
slice_bounds-used-end c =
    weights_front_length c.requires.0.setting.accepted c.requires.1 c.weights_of-numbers.result c.weights_of-numbers.ensures.2

pub heaviest-first-requires : goal.heaviest-first-requires
heaviest-first-requires c = some_weights c.requires.0 c.requires.1

pub places_with-places-requires : goal.places_with-places-requires
places_with-places-requires c = six_machines c.requires.0 c.requires.1 c.heaviest-first.ensures

-- marks, with this machine first
pub slice_bounds-places-end : goal.slice_bounds-places-end
slice_bounds-places-end c =
    let places_fit : length c.places_with-places.result ≡ 6 = subst (λ (l : List ℕ). length l ≡ 6) (sym c.places_with-places.ensures) (put_length c.requires.0 c.requires.1 c.heaviest-first.ensures) in
    omega (arith, machines_few c.requires.0.setting.accepted c.requires.1, places_fit)

pub slice_bounds-ranked_weights-end : goal.slice_bounds-ranked_weights-end
slice_bounds-ranked_weights-end c =
    subst (λ (l : List ℕ). c.args.grid.machines ≡ length (take c.args.grid.machines l)) (sym c.places_with-places.ensures) (order_length c.requires.0 c.requires.1 c.heaviest-first.ensures)

pub ranked_weights-marks-requires : goal.ranked_weights-marks-requires
ranked_weights-marks-requires c =
    let ranks : is_ranking (length (take c.args.grid.machines c.args.grid.counts)) (take c.args.grid.machines c.places_with-places.result) ≡ true =
    subst (λ (l : List ℕ). is_ranking (length (take c.args.grid.machines c.args.grid.counts)) (take c.args.grid.machines l) ≡ true) (sym c.places_with-places.ensures)
    (counts_ranked c.requires.0 c.requires.1 c.heaviest-first.ensures) in
    (counts_some c.requires.0.setting.accepted c.requires.1, ranks)

pub highs_with-highs-requires : goal.highs_with-highs-requires
highs_with-highs-requires c = six_machines c.requires.0 c.requires.1 c.heaviest-first.ensures

pub overflow_mul-marks : goal.overflow_mul-marks
overflow_mul-marks c = omega (arith, machines_few c.requires.0.setting.accepted c.requires.1)

pub slice_bounds-marks-end : goal.slice_bounds-marks-end
slice_bounds-marks-end c = omega (arith, machines_few c.requires.0.setting.accepted c.requires.1, c.ranked_weights-marks.ensures.2)

pub slice_bounds-label_all-end-2 : goal.slice_bounds-label_all-end-2
slice_bounds-label_all-end-2 c =
    weights_front_length c.requires.0.setting.accepted c.requires.1 c.ranked_weights-marks.result c.ranked_weights-marks.ensures.2

pub label_all-requires : goal.label_all-requires
label_all-requires c =
    let accepted = c.requires.0.setting.accepted in
    let weights_are = weights_front accepted c.requires.1 c.weights_of-numbers.result c.weights_of-numbers.ensures.0 in
    let by_weights = in_front_lem accepted c.requires.1 (WeighsBy c.args.weights.now) c.weights_of-numbers.result c.weights_of-numbers.ensures.1 in
    let marks_are = weights_front accepted c.requires.1 c.ranked_weights-marks.result c.ranked_weights-marks.ensures.0 in
    let in_order =
    in_front_lem accepted c.requires.1 (RankedWeights (six_places (take c.args.grid.machines (first_put c.heaviest-first.result card_places)))) c.ranked_weights-marks.result
    (subst (λ (l : List ℕ). RankedWeights (six_places (take c.args.grid.machines l)) (take (3 * length (take c.args.grid.machines c.args.grid.counts)) c.ranked_weights-marks.result))
    c.places_with-places.ensures c.ranked_weights-marks.ensures.1) in
    subst (λ (hs : List ℕ). SearchPre [] c.args.work.now c.args.card.now c.args.grid (take (3 * c.args.grid.machines) c.weights_of-numbers.result) hs (take (3 * c.args.grid.machines) c.ranked_weights-marks.result) c.args.sets.now)
    (sym c.highs_with-highs.ensures) (search_ready c.requires.0 c.requires.1 weights_are by_weights c.heaviest-first.ensures marks_are in_order)

pub returns : goal.returns
returns c =
    let accepted = c.requires.0.setting.accepted in
    label_done c.requires.0 c.requires.1 (weights_front accepted c.requires.1 c.weights_of-numbers.result c.weights_of-numbers.ensures.0)
    (in_front_lem accepted c.requires.1 (WeighsBy c.args.weights.now) c.weights_of-numbers.result c.weights_of-numbers.ensures.1) c.label_all.ensures
