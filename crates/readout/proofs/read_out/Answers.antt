use Rattle.std.proofs.Common.{◌≡◌, refl, sym, ap, ◌∙◌, length, arith}
use Rattle.std.proofs.lemmas.Result.{err_from_is_err_and}
use Rattle.refusals.specs.Refusals.{checked_number}
use Rattle.refusals.proofs.Refusals.{passed_number, number_positive}
use Rattle.product.specs.ProductGraph.{card_start}
use Rattle.tables.specs.Work.{label_of}
use Rattle.tables.proofs.Prefix.{front_fits}
use Rattle.readout.specs.Searching.{label_refusal}
use Rattle.readout.proofs.Labels.{start_fits}
use Rattle.readout.proofs.Reading.{start_there, at_start_lem, refused_answered, walked_few, best_answered}
use Rattle.readout.proofs.read_out.Goals as goal

pub start_node-start-requires : goal.start_node-start-requires
start_node-start-requires c =
    front_fits c.args.card.now c.requires.0.setting.accepted c.args.grid.counts c.args.grid.machines c.requires.2.machines c.requires.2.counts

-- the start has its numbers in the work slice
pub check_best-requires : goal.check_best-requires
check_best-requires c =
    omega (arith, start_there c.requires.0 c.requires.1, c.start_node-start.ensures _ c.requires.2)

pub returns-in_err-check_best : goal.returns-in_err-check_best
returns-in_err-check_best c =
    let p = err_from_is_err_and c.from_residual.result c.from_residual.ensures.1 in
    rw (p.1, p.2)
    (refused_answered c.requires.0 c.requires.1 c.args.answer.now _ _
    (at_start_lem c.requires.0 c.requires.1 _ _ (c.start_node-start.ensures _ c.requires.2) (sym (ap checked_number c.in_err-check_best.was) ∙ c.check_best.ensures))
    (number_positive c.in_err-check_best.field-0.0) refl)

-- neither check refuses
pub walk_ranked-written-requires : goal.walk_ranked-written-requires
walk_ranked-written-requires c =
    let passes : label_refusal (label_of c.args.work.now (card_start c.args.card.now)) (length c.args.answer.now) ≡ 0 = sym (at_start_lem c.requires.0 c.requires.1 _ _ (c.start_node-start.ensures _ c.requires.2) (sym (passed_number c.in_ok-check_best.was c.check_best.ensures))) in
    (record { sets_pre = c.requires.0; done = c.requires.1; start = start_fits _ _ _ passes }, c.requires.2)

pub overflow_cast-result : goal.overflow_cast-result
overflow_cast-result c =
    let passes : label_refusal (label_of c.args.work.now (card_start c.args.card.now)) (length c.args.answer.now) ≡ 0 = sym (at_start_lem c.requires.0 c.requires.1 _ _ (c.start_node-start.ensures _ c.requires.2) (sym (passed_number c.in_ok-check_best.was c.check_best.ensures))) in
    omega (arith, walked_few c.requires.0 c.requires.1 (start_fits _ _ _ passes) c.walk_ranked-written.ensures)

pub returns : goal.returns
returns c =
    let passes : label_refusal (label_of c.args.work.now (card_start c.args.card.now)) (length c.args.answer.now) ≡ 0 = sym (at_start_lem c.requires.0 c.requires.1 _ _ (c.start_node-start.ensures _ c.requires.2) (sym (passed_number c.in_ok-check_best.was c.check_best.ensures))) in
    best_answered c.requires.0 c.requires.1 passes c.walk_ranked-written.ensures
