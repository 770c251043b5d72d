use Rattle.basics.proofs.Words.{Option, some}
use Rattle.std.proofs.Common.{sym, ap, ◌∙◌}
use Rattle.paths.specs.Ranked.{Ranked}
use Rattle.refusals.proofs.Refusals.{passed_number}
use Rattle.readout.specs.Searching.{label_refusal}
use Rattle.readout.proofs.Labels.{is_there}
use Rattle.readout.proofs.checks.check_best.Goals as goal

pub returns : goal.returns
returns c =
    let loaded = is_there _ _ (passed_number c.in_ok-check_found.was c.check_found.ensures) ∙ ap {B = Option (Ranked 6)} some (sym c.load-label.ensures) in
    c.check_answer.ensures ∙ sym (ap (λ (o : Option (Ranked 6)). label_refusal o c.args.room) loaded)
