use Rattle.basics.proofs.Words.{sym, ap, ◌∙◌, arith, every_start, every_next, one_below_fails}
use Rattle.refusals.proofs.Refusals.{refuses_with}
use Rattle.layout.specs.LaidOut.{part_within}
use Rattle.rows.specs.Tableau.{row_count, row_of}
use Rattle.rows.specs.Judging.{counts_are_profile}
use Rattle.rows.proofs.check_profiles.Goals as goal

pub loop-i-init : goal.loop-i-init
loop-i-init c = (omega arith, every_start (λ j. counts_are_profile c.args.card.now (row_of c.args.tableau.now j)))

pub part-requires : goal.part-requires
part-requires c = part_within (row_count c.args.tableau.now) c.args.tableau.now c.requires.1.layout c.loop-i.i (omega arith)

pub returns-then-not-are_its_profile : goal.returns-then-not-are_its_profile
returns-then-not-are_its_profile c =
    let e = c.are_its_profile.ensures ∙ ap (counts_are_profile c.args.card.now) c.part.ensures in
    sym (refuses_with 21 (one_below_fails (λ j. counts_are_profile c.args.card.now (row_of c.args.tableau.now j)) (row_count c.args.tableau.now) c.loop-i.i (omega arith) (sym e ∙ c.if-not-are_its_profile.true)))

pub loop-i-preserved : goal.loop-i-preserved
loop-i-preserved c =
    let e = c.are_its_profile.ensures ∙ ap (counts_are_profile c.args.card.now) c.part.ensures in
    (omega arith, every_next (λ j. counts_are_profile c.args.card.now (row_of c.args.tableau.now j)) c.loop-i.i c.loop-i.invariant.1 (sym e ∙ c.if-not-are_its_profile.false))
