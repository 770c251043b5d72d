use Rattle.basics.proofs.Words.{arith}
use Rattle.tables.specs.Places.{six_places}
use Rattle.insertions.specs.RankedWeights.{RankedWeights}
use Rattle.labelling.proofs.Sizes.{counts_fit, counts_length, counts_some, machines_few, weights_front_length, weights_front, in_front_lem}
use Rattle.labelling.proofs.Preparing.{counts_ranked, search_ready, label_done}
use Rattle.labelling.proofs.label.Goals as goal

pub slice_bounds-all-end : goal.slice_bounds-all-end
slice_bounds-all-end c =
    counts_fit c.requires.0.setting.accepted c.requires.1

pub slice_bounds-ranked_weights-end : goal.slice_bounds-ranked_weights-end
slice_bounds-ranked_weights-end c =
    counts_length c.requires.0.setting.accepted c.requires.1

pub ranked_weights-weights-requires : goal.ranked_weights-weights-requires
ranked_weights-weights-requires c =
    (counts_some c.requires.0.setting.accepted c.requires.1, counts_ranked c.requires.0 c.requires.1)

pub overflow_mul-weights : goal.overflow_mul-weights
overflow_mul-weights c = omega (arith, machines_few c.requires.0.setting.accepted c.requires.1)

pub slice_bounds-weights-end : goal.slice_bounds-weights-end
slice_bounds-weights-end c = omega (arith, machines_few c.requires.0.setting.accepted c.requires.1, c.ranked_weights-weights.ensures.2)

pub slice_bounds-used-end : goal.slice_bounds-used-end
slice_bounds-used-end c =
    weights_front_length c.requires.0.setting.accepted c.requires.1 c.ranked_weights-weights.result c.ranked_weights-weights.ensures.2

pub label_all-requires : goal.label_all-requires
label_all-requires c =
    search_ready c.requires.0 c.requires.1 (weights_front c.requires.0.setting.accepted c.requires.1 c.ranked_weights-weights.result c.ranked_weights-weights.ensures.0) (in_front_lem c.requires.0.setting.accepted c.requires.1 (RankedWeights (six_places c.args.ranking.now)) c.ranked_weights-weights.result c.ranked_weights-weights.ensures.1)

pub returns : goal.returns
returns c =
    label_done c.requires.0 c.requires.1 (weights_front c.requires.0.setting.accepted c.requires.1 c.ranked_weights-weights.result c.ranked_weights-weights.ensures.0) (in_front_lem c.requires.0.setting.accepted c.requires.1 (RankedWeights (six_places c.args.ranking.now)) c.ranked_weights-weights.result c.ranked_weights-weights.ensures.1) c.label_all.ensures
