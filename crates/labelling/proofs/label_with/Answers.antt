use Rattle.basics.proofs.Words.{◌∙◌, ℕ, arith, length-replicate}
use Rattle.labelling.proofs.Sizes.{counts_fit, counts_length, counts_some, size_is, states_are}
use Rattle.labelling.proofs.Preparing.{fill_ready, list_ready, lists_ready, groups_room}
use Rattle.labelling.proofs.label_with.Goals as goal

pub slice_bounds-all-end : goal.slice_bounds-all-end
slice_bounds-all-end c =
    let q = c.requires.0 in counts_fit q.setting.accepted q.grid_of

pub slice_bounds-counts-end : goal.slice_bounds-counts-end
slice_bounds-counts-end c =
    let q = c.requires.0 in counts_length q.setting.accepted q.grid_of

pub grouped-g-requires : goal.grouped-g-requires
grouped-g-requires c =
    let q = c.requires.0 in (counts_some q.setting.accepted q.grid_of, states_are q.setting.accepted q.grid_of, size_is q.setting.accepted q.grid_of)

pub prepare-kept-requires : goal.prepare-kept-requires
prepare-kept-requires c = fill_ready c.requires.0 c.requires.1

pub count-requires : goal.count-requires
count-requires c =
    (length-replicate {A = ℕ} 514 0, list_ready c.requires.0 c.prepare-kept.ensures c.grouped-g.ensures, groups_room c.requires.0 c.grouped-g.ensures c.requires.3, groups_room c.requires.0 c.grouped-g.ensures c.requires.4)

pub list-requires : goal.list-requires
list-requires c =
    let q = c.requires in
    let d = c.count.ensures.0 in (
      list_ready q.0 c.prepare-kept.ensures c.grouped-g.ensures,
      d,
      omega (arith, d.few, q.2, size_is q.0.setting.accepted q.0.grid_of),
      omega (arith, groups_room c.requires.0 c.grouped-g.ensures c.requires.3, c.count.auto.high),
      omega (arith, groups_room c.requires.0 c.grouped-g.ensures c.requires.4, c.count.auto.low),
    )

pub label_positions-requires : goal.label_positions-requires
label_positions-requires c =
    let q = c.requires in (
      lists_ready q.0 c.prepare-kept.ensures (omega (arith, c.prepare-kept.auto.steps, q.1)) c.list.ensures,
      c.grouped-g.ensures.0,
      c.grouped-g.ensures.1,
      omega (arith, groups_room c.requires.0 c.grouped-g.ensures c.requires.3, c.count.auto.high, c.list.auto.high),
      omega (arith, groups_room c.requires.0 c.grouped-g.ensures c.requires.4, c.count.auto.low, c.list.auto.low),
    )

pub shape_of-steps : goal.shape_of-steps
shape_of-steps c =
    c.label_positions.auto.steps ∙ c.prepare-kept.auto.steps

pub shape_of-high : goal.shape_of-high
shape_of-high c =
    c.label_positions.auto.high ∙ c.list.auto.high ∙ c.count.auto.high

pub shape_of-low : goal.shape_of-low
shape_of-low c =
    c.label_positions.auto.low ∙ c.list.auto.low ∙ c.count.auto.low
