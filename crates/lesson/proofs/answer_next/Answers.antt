use Rattle.std.specs.Prelude.{◌≡◌}
use Rattle.basics.proofs.Words.{ap, sym, ◌∙◌, Bool, true, false, not, lit<, not-true, not-false}
use Rattle.refusals.specs.Refusals.{refuse}
use Rattle.refusals.proofs.Refusals.{was_true, was_false}
use Rattle.writing.specs.Writing.{refused_line}
use Rattle.lesson.specs.Tally.{counted, is_full, past_text}
use Rattle.lesson.specs.TallyLaws.{tally_full, tally_open, text_full, text_open}
use Rattle.lesson.proofs.Replies.{prints}
use Rattle.lesson.proofs.Tallies.{fewer}
use Rattle.lesson.proofs.answer_next.Goals as goal

-- check 22, by the tally: it is full
pub returns-then-is_full-clause-text : goal.returns-then-is_full-clause-text
returns-then-is_full-clause-text c =
    let full : is_full c.args.tally ≡ true = sym c.is_full.ensures ∙ c.if-is_full.true in
    prints
    (ap refused_line c.from.ensures ∙ sym (text_full c.args.card.now c.args.tally c.args.line.now full ∙ ap past_text c.requires.2))
    c.write_refused-size.ensures.length
    c.write_refused-size.ensures.out
    c.write_refused-size.auto.out

pub returns-then-is_full-clause-tally : goal.returns-then-is_full-clause-tally
returns-then-is_full-clause-tally c =
    (c.passed-tally.ensures.0 ∙ sym (tally_full c.args.card.now c.args.tally c.args.line.now (sym c.is_full.ensures ∙ c.if-is_full.true)), c.passed-tally.ensures.1)

-- it is not full
pub count-tally-requires : goal.count-tally-requires
count-tally-requires c = (c.requires.1, fewer c.args.tally (sym c.is_full.ensures ∙ c.if-is_full.false))

pub returns-clause-text : goal.returns-clause-text
returns-clause-text c =
    prints
    (sym (text_open c.args.card.now c.args.tally c.args.line.now (sym c.is_full.ensures ∙ c.if-is_full.false)))
    c.answer_line-reply.ensures.text.size
    c.answer_line-reply.ensures.text.bytes
    c.answer_line-reply.auto.out

pub returns-clause-tally : goal.returns-clause-tally
returns-clause-tally c =
    (c.count-tally.ensures.0 ∙ ap (counted c.args.tally) c.answer_line-reply.ensures.counts ∙ sym (tally_open c.args.card.now c.args.tally c.args.line.now (sym c.is_full.ensures ∙ c.if-is_full.false)), c.count-tally.ensures.1)
