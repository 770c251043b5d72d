use Rattle.std.specs.Prelude.{◌-◌}
use Rattle.basics.specs.Words.{refl, sym, ◌∙◌, ℕ, arith, length, length-replicate}
use Rattle.labelling.proofs.Sizes.{counts_fit, counts_length, states_are}
use Rattle.labelling.proofs.Looping.{enter_ready, base_few, last_ready, last_closed, blank_there, next_there, symbols_ready, symbols_closed, all_closed, one_before, zeros_fit}
use Rattle.labelling.proofs.label_positions.Goals as goal

-- ---- before the loop
pub slice_bounds-all-end : goal.slice_bounds-all-end
slice_bounds-all-end c =
    let q = c.requires.0.search in counts_fit q.setting.accepted q.grid_of

pub slice_bounds-counts-end : goal.slice_bounds-counts-end
slice_bounds-counts-end c =
    let q = c.requires.0.search in counts_length q.setting.accepted q.grid_of

pub slice_bounds-enter_endings-end : goal.slice_bounds-enter_endings-end
slice_bounds-enter_endings-end c = refl

pub enter_endings-requires : goal.enter_endings-requires
enter_endings-requires c =
    let p = c.requires.0 in
    (enter_ready p (states_are p.search.setting.accepted p.search.grid_of) refl (length-replicate {A = ℕ} 256 0) (c.requires.1, c.requires.2), p.prepared.columns.small, c.requires.3, c.requires.4)

pub overflow_mul-sets : goal.overflow_mul-sets
overflow_mul-sets c =
    omega (arith, base_few c.requires.0 (length c.args.sets.now) (omega arith))

pub finish-requires : goal.finish-requires
finish-requires c =
    last_ready c.requires.0 c.enter_endings.ensures (length-replicate {A = ℕ} 256 0)

pub loop-position-init : goal.loop-position-init
loop-position-init c = last_closed c.requires.0 c.enter_endings.ensures zeros_fit c.finish.ensures

-- ---- in the loop
pub slice_bounds-enter_symbols-end : goal.slice_bounds-enter_symbols-end
slice_bounds-enter_symbols-end c = sym c.loop-position.invariant.own_size

pub enter_symbols-requires : goal.enter_symbols-requires
enter_symbols-requires c =
    let q = c.requires in
    let p = q.0 in
    let l = c.loop-position.invariant in
    let a = c.loop-position.auto in
    let k = c.enter_endings.auto in
    let B = one_before (omega arith) l in (
      enter_ready p refl (a.steps ∙ k.steps) l.own_size (q.1, q.2),
      blank_there p (omega arith) B,
      next_there p (omega arith) B,
      p.search.setting.symbols _,
      omega (arith, q.3, k.high, a.high),
      omega (arith, q.4, k.low, a.low),
    )

pub overflow_mul-position : goal.overflow_mul-position
overflow_mul-position c =
    omega (arith, base_few c.requires.0 (c.loop-position.position - 1) (omega arith))

pub finish-requires-in-loop-position : goal.finish-requires-in-loop-position
finish-requires-in-loop-position c =
    let a = c.loop-position.auto in
    let f = c.finish.ensures.closed in
    symbols_ready c.requires.0 (omega arith) (one_before (omega arith) c.loop-position.invariant) c.enter_symbols.ensures (a.sums ∙ f.sums_size) (a.ranked ∙ f.ranked_size)

pub loop-position-preserved : goal.loop-position-preserved
loop-position-preserved c =
    symbols_closed c.requires.0 (omega arith) (one_before (omega arith) c.loop-position.invariant) c.enter_symbols.ensures (c.loop-position.auto.sums ∙ c.finish.ensures.closed.sums_size) c.finish-in-loop-position.ensures

pub returns : goal.returns
returns c =
    let f = c.finish.ensures.closed in
    let a = c.loop-position.auto in
    all_closed (omega arith) (a.ranked ∙ f.ranked_size) (a.sums ∙ f.sums_size) c.loop-position.invariant
