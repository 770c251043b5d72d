use Rattle.basics.proofs.Words.{sym, ◌∙◌, ap, Option·none-ne-some, arith}
use Rattle.machine.specs.Machine.{ended}
use Rattle.passing.proofs.ending_marks.Goals as goal

pub returns-in_default : goal.returns-in_default
returns-in_default c = (λ n e. absurd (Option·none-ne-some n (sym (ap ended c.in_default.is) ∙ c.ending.ensures ∙ e)), omega arith)

pub returns : goal.returns
returns c =
    (λ n e. cc (c.ending.ensures, e, ap ended c.in-Some.is), omega arith)
