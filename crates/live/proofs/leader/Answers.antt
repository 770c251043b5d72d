use Rattle.basics.specs.Words.{refl, sym, ap, ◌∙◌, arith, length}
use Rattle.refusals.specs.Refusals.{checked_number}
use Rattle.live.specs.Rows.{fits}
use Rattle.live_checks.proofs.Checks.{all_passed, ranking_sound, fits_within}
use Rattle.live.proofs.Answers.{lead_none, lead_done}
use Rattle.live.proofs.leader.Goals as goal

pub returns-then-count-eq0 : goal.returns-then-count-eq0
returns-then-count-eq0 c =
    lead_none c.args.machines c.args.ranking.now c.args.count c.args.rows.now c.check_rows.ensures (ap checked_number c.in_ok-check_rows.was) c.if-count-eq0.true refl

pub foremost-requires : goal.foremost-requires
foremost-requires c =
    let p = all_passed c.args.machines c.args.ranking.now (fits c.args.count (length c.args.rows.now)) (sym c.check_rows.ensures ∙ ap checked_number c.in_ok-check_rows.was) in
    (ranking_sound c.args.machines c.args.ranking.now p.counts p.ranks, (omega arith, fits_within c.args.count (length c.args.rows.now) p.rows))

pub returns : goal.returns
returns c =
    lead_done c.args.machines c.args.ranking.now c.args.count c.args.rows.now c.check_rows.ensures (ap checked_number c.in_ok-check_rows.was) c.foremost.ensures
