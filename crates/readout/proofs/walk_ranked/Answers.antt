use Rattle.std.proofs.Common.{refl}
use Rattle.labelling.proofs.Sizes.{counts_fit, counts_length, counts_some}
use Rattle.labelling.proofs.Preparing.{counts_ranked}
use Rattle.readout.proofs.Walking.{label_pre, weights_fit, weights_length, walk_pre, best_walked}
use Rattle.readout.proofs.walk_ranked.Goals as goal

pub slice_bounds-all-end : goal.slice_bounds-all-end
slice_bounds-all-end c = counts_fit c.requires.0.sets_pre.setting.accepted c.requires.1

pub slice_bounds-counts-end : goal.slice_bounds-counts-end
slice_bounds-counts-end c = counts_length c.requires.0.sets_pre.setting.accepted c.requires.1

pub ranked_weights-weights-requires : goal.ranked_weights-weights-requires
ranked_weights-weights-requires c =
    (counts_some c.requires.0.sets_pre.setting.accepted c.requires.1, counts_ranked (label_pre c.requires.0) c.requires.1)

pub slice_bounds-weights-end : goal.slice_bounds-weights-end
slice_bounds-weights-end c =
    weights_fit c.requires.0 c.args.grid.counts c.args.grid.machines c.requires.1.machines c.requires.1.counts c.ranked_weights-weights.result c.ranked_weights-weights.ensures

pub slice_bounds-walk-end-2 : goal.slice_bounds-walk-end-2
slice_bounds-walk-end-2 c =
    weights_length c.requires.0 c.args.grid.counts c.args.grid.machines c.requires.1.machines c.requires.1.counts c.ranked_weights-weights.result c.ranked_weights-weights.ensures

pub walk-requires : goal.walk-requires
walk-requires c =
    walk_pre c.requires.0 c.args.grid.counts c.args.grid.machines c.requires.1.machines c.requires.1.counts c.ranked_weights-weights.result c.ranked_weights-weights.ensures _ refl

pub returns : goal.returns
returns c =
    best_walked c.requires.0 c.args.grid.counts c.args.grid.machines c.requires.1.machines c.requires.1.counts c.ranked_weights-weights.result c.ranked_weights-weights.ensures _ refl c.walk.ensures
