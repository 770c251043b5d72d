use Rattle.std.proofs.Common.{rules, ◌≡◌}
use Rattle.basics.specs.Words.{length, ◌∙◌}
use Rattle.rows.proofs.SameCounts.{same_six}
use Rattle.rows.proofs.same_counts.Goals as goal

pub returns : goal.returns
returns c =
    let h : length c.args.first.counts ≡ 6 = search rules in
    let k : length c.args.second.counts ≡ 6 = search rules in
    c.eq.ensures ∙ same_six c.args.first.counts c.args.second.counts h k
