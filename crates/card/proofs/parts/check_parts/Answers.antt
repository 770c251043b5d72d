use Rattle.std.specs.Prelude.{◌+◌, ◌≤◌}
use Rattle.std.proofs.lemmas.Result.{err_from_is_err_and}
use Rattle.basics.proofs.Words.{ap, sym, ◌∙◌, arith}
use Rattle.machine.specs.Accepted.{accepted}
use Rattle.refusals.specs.Refusals.{checked_number}
use Rattle.refusals.proofs.Refusals.{passed_number, refused_number}
use Rattle.card.specs.Laws.Parts.{total_left}
use Rattle.card.specs.Laws.Checked.{part_shaped}
use Rattle.card.proofs.PartSteps.{check_on, check_stop, check_end, product_next, product_small}
use Rattle.card.proofs.parts.check_parts.Goals as goal

pub slice_bounds-part-end : goal.slice_bounds-part-end
slice_bounds-part-end c =
    omega (arith, total_left c.args.lengths.now c.loop-length.length-index (omega arith))

pub returns-in_err-check : goal.returns-in_err-check
returns-in_err-check c =
    let p = err_from_is_err_and c.from_residual.result c.from_residual.ensures.1 in
    let e = c.in_err-check.was in
    rw (p.1, p.2)
    (sym (ap checked_number e)
    ∙ c.check.ensures
    ∙ check_stop c.args.symbols c.loop-length.states c.args.lengths.now c.args.bytes.now c.loop-length.length-index c.loop-length.offset _ c.loop-length.invariant.2
    c.from.result (omega arith) c.from.ensures (refused_number e c.check.ensures))

pub state_count-states-requires : goal.state_count-states-requires
state_count-states-requires c =
    (accepted c.args.symbols _ (passed_number c.in_ok-check.was c.check.ensures)).shape

pub overflow_mul-states : goal.overflow_mul-states
overflow_mul-states c =
    let s = part_shaped c.args.symbols _ (passed_number c.in_ok-check.was c.check.ensures) in
    let few : c.state_count-states.result ≤ 32 = omega (arith, s, c.state_count-states.ensures) in
    record { fits = product_small _ (c.loop-length.length-index + 1) (product_next c.loop-length.states c.loop-length.length-index c.state_count-states.result c.loop-length.invariant.1 few) (omega arith) }

pub loop-length-preserved : goal.loop-length-preserved
loop-length-preserved c =
    let passed = passed_number c.in_ok-check.was c.check.ensures in
    let s = part_shaped c.args.symbols _ passed in
    let few : c.state_count-states.result ≤ 32 = omega (arith, s, c.state_count-states.ensures) in (
      omega (arith, total_left c.args.lengths.now c.loop-length.length-index (omega arith)),
      product_next c.loop-length.states c.loop-length.length-index c.state_count-states.result c.loop-length.invariant.1 few,
      rw c.state_count-states.ensures
          (check_on c.args.symbols c.loop-length.states c.args.lengths.now c.args.bytes.now c.loop-length.length-index c.loop-length.offset _ c.loop-length.invariant.2
          c.from.result (omega arith) c.from.ensures passed),
    )

pub returns : goal.returns
returns c =
    c.tested.ensures
    ∙ check_end c.args.symbols c.loop-length.states c.args.lengths.now c.args.bytes.now c.loop-length.length-index c.loop-length.offset _ c.loop-length.invariant.2 (omega arith)
