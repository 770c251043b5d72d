use Rattle.basics.proofs.Words.{ap, ℕ, take}
use Rattle.writing.specs.Writing.{closing_lines}
use Rattle.lesson.specs.Tally.{closing_text}
use Rattle.lesson.proofs.Replies.{prints}
use Rattle.lesson.proofs.write_closing.Goals as goal

pub returns : goal.returns
unfolding closing_text
returns c =
    let t = c.args.tally in
    prints (ap (λ (n : ℕ). closing_lines t.answered t.refused (take n t.totals)) c.shown_machines-shown.ensures.0) c.write_closing.ensures.length c.write_closing.ensures.out c.write_closing.auto.out
