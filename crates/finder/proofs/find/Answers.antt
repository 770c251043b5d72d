use Rattle.std.specs.Prelude.{◌∷◌}
use Rattle.std.proofs.lemmas.Result.{err_from_is_err_and}
use Rattle.basics.proofs.Words.{sym, ◌∙◌, ap, []}
use Rattle.refusals.specs.Refusals.{refuse, first_of}
use Rattle.refusals.proofs.Refusals.{accepts, not_accepted, refused_number}
use Rattle.ranking.specs.Rankings.{is_machine_count}
use Rattle.finder.specs.Finder.{conditions_of, sound_list, smallest, refused_finding, finding_of, finding}
use Rattle.finder.proofs.find.Goals as goal

pub returns-in_err-check : goal.returns-in_err-check
unfolding finding
returns-in_err-check c =
    let n = first_of (refuse 1 (is_machine_count c.args.machines) ∷ refuse 15 (sound_list c.args.machines c.args.conditions.now) ∷ []) in
    let e = c.in_err-check.ensures in
    let p = err_from_is_err_and c.from_residual.result c.from_residual.ensures.1 in
    rw (p.1, p.2) (ap refused_finding e ∙ sym (not_accepted n (finding_of c.args.machines (smallest c.args.machines (conditions_of c.args.conditions.now))) refused_finding (refused_number c.in_err-check.was c.check.ensures)))

pub returns : goal.returns
unfolding finding
returns c =
    let n = first_of (refuse 1 (is_machine_count c.args.machines) ∷ refuse 15 (sound_list c.args.machines c.args.conditions.now) ∷ []) in
    c.rank.ensures
    ∙ sym
    (accepts c.in_ok-check.was n (finding_of c.args.machines (smallest c.args.machines (conditions_of c.args.conditions.now))) refused_finding
    c.check.ensures)
