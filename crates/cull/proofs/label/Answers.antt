use Rattle.std.specs.Prelude.{◌+◌, ◌*◌}
use Rattle.basics.proofs.Words.{sym, ◌∙◌, ap, subst, ℕ, arith, length, take, rules}
use Rattle.product.specs.Setting.{Setting}
use Rattle.tables.specs.Places.{six_places}
use Rattle.cells.specs.Columns.{WeightsOf}
use Rattle.insertions.specs.RankedWeights.{RankedWeights}
use Rattle.labelling.proofs.Sizes.{counts_are, counts_fit, counts_length, counts_some, machines_few, size_is, states_are, states_few, weights_front_length, in_front_lem}
use Rattle.labelling.proofs.Preparing.{counts_ranked}
use Rattle.cull.specs.Tables.{RankedBy}
use Rattle.cull.proofs.Columns.{columns_small, columns_length}
use Rattle.cull.proofs.label.Goals as goal

pub slice_bounds-all-end : goal.slice_bounds-all-end
slice_bounds-all-end c =
    counts_fit c.requires.0.setting.accepted c.requires.1

pub slice_bounds-counts-end : goal.slice_bounds-counts-end
slice_bounds-counts-end c =
    counts_length c.requires.0.setting.accepted c.requires.1

pub ranked_weights-weights-requires : goal.ranked_weights-weights-requires
ranked_weights-weights-requires c =
    (counts_some c.requires.0.setting.accepted c.requires.1, counts_ranked c.requires.0 c.requires.1)

pub overflow_mul-columns : goal.overflow_mul-columns
overflow_mul-columns c =
    omega (arith, states_few c.requires.0.setting.accepted c.requires.1)

pub grouped-g-requires : goal.grouped-g-requires
grouped-g-requires c =
    (counts_some c.requires.0.setting.accepted c.requires.1, states_are c.requires.0.setting.accepted c.requires.1, size_is c.requires.0.setting.accepted c.requires.1)

pub overflow_mul-weights : goal.overflow_mul-weights
overflow_mul-weights c =
    omega (arith, machines_few c.requires.0.setting.accepted c.requires.1)

pub slice_bounds-weights-end : goal.slice_bounds-weights-end
slice_bounds-weights-end c =
    omega (arith, machines_few c.requires.0.setting.accepted c.requires.1, c.ranked_weights-weights.ensures.2)

pub slice_bounds-label_by-end : goal.slice_bounds-label_by-end
slice_bounds-label_by-end c =
    weights_front_length c.requires.0.setting.accepted c.requires.1 c.ranked_weights-weights.result c.ranked_weights-weights.ensures.2

pub slice_bounds-steps-end : goal.slice_bounds-steps-end
slice_bounds-steps-end c =
    omega (arith, states_few c.requires.0.setting.accepted c.requires.1)

pub slice_bounds-label_by-end-2 : goal.slice_bounds-label_by-end-2
slice_bounds-label_by-end-2 c =
    sym (columns_length (c.args.grid.states * 65) (omega (arith, states_few c.requires.0.setting.accepted c.requires.1)))

pub label_by-requires : goal.label_by-requires
label_by-requires c =
    let g = c.grouped-g.ensures in
    let z = size_is c.requires.0.setting.accepted c.requires.1 in (
      record {
        setting = subst (λ (n : ℕ). Setting c.args.card.now c.args.sets.now n) z c.requires.0.setting;
        counts_are = counts_are c.requires.0.setting.accepted c.requires.1;
        weights = in_front_lem c.requires.0.setting.accepted c.requires.1 (WeightsOf (take c.args.grid.machines c.args.grid.counts)) c.ranked_weights-weights.result c.ranked_weights-weights.ensures.0;
        groups = g.0;
        few = g.1;
        room = c.requires.0.room ∙ ap (λ (n : ℕ). (length c.args.sets.now + 1) * n * 8) z;
        columns = omega (arith, columns_length (c.args.grid.states * 65) (omega (arith, states_few c.requires.0.setting.accepted c.requires.1)), states_are c.requires.0.setting.accepted c.requires.1);
        small = columns_small (c.args.grid.states * 65);
      },
      (c.args.ranking.now, record { weights = in_front_lem c.requires.0.setting.accepted c.requires.1 (RankedWeights (six_places c.args.ranking.now)) c.ranked_weights-weights.result c.ranked_weights-weights.ensures.1; ranks = c.requires.0.ranks }),
    )

pub returns : goal.returns
returns c =
    c.label_by.ensures _ (record { weights = in_front_lem c.requires.0.setting.accepted c.requires.1 (RankedWeights (six_places c.args.ranking.now)) c.ranked_weights-weights.result c.ranked_weights-weights.ensures.1; ranks = c.requires.0.ranks })
