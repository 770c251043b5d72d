use Rattle.std.specs.Prelude.{◌++◌}
use Rattle.basics.proofs.Words.{ap, sym, ◌∙◌, List, drop, left_fails, right_fails}
use Rattle.tally.specs.declared.Tally.{Tally}
use Rattle.lesson.specs.Tally.{line_text, closing_text}
use Rattle.lesson.proofs.Replies.{prints}
use Rattle.pieces.proofs.Closing.{end_closing, end_line, front_lent, front_room, room_behind, text_fits, front_part, prints_after}
use Rattle.pieces.proofs.finish.Goals as goal

pub returns-then-tally-line : goal.returns-then-tally-line
returns-then-tally-line c =
    prints
    (end_closing c.args.card.now c.args.tally c.args.line.now c.requires.2 c.if-tally-line.true)
    c.write_closing.ensures.size
    c.write_closing.ensures.bytes
    c.write_closing.auto.out

pub slice_bounds-answer_next-end-2 : goal.slice_bounds-answer_next-end-2
slice_bounds-answer_next-end-2 c = sym (front_lent c.args.out.now c.requires.0)

pub answer_next-turn-requires : goal.answer_next-turn-requires
answer_next-turn-requires c = (front_room c.args.out.now c.requires.0, c.requires.1, left_fails _ _ c.if-tally-line.false)

-- the line's text leaves room for the closing lines
pub write_closing-n-requires : goal.write_closing-n-requires
write_closing-n-requires c = room_behind c.args.out.now c.requires.0 c.answer_next-turn.ensures.text c.answer_next-turn.auto.out

pub returns : goal.returns
returns c =
    let first = line_text c.args.card.now c.args.tally c.args.line.now in
    let written = c.answer_next-turn.ensures.text in
    prints_after
    first
    written.size
    (front_part 25628 first c.args.out.now written.bytes (text_fits written c.answer_next-turn.auto.out))
    c.write_closing-n.ensures
    (ap (λ (u : Tally). first ++ closing_text c.args.card.now u) c.answer_next-turn.ensures.tally.0
    ∙ end_line c.args.card.now c.args.tally c.args.line.now (right_fails c.args.tally.past _ c.if-tally-line.false))
