use Rattle.writing.proofs.Cutting.{part_rest}
use Rattle.lines.proofs.Receiving.{kept_written, stays_open, ends_line}
use Rattle.lines.proofs.input.next_line.Goals as goal

pub returns-then-n-rest-clause-answer : goal.returns-then-n-rest-clause-answer
returns-then-n-rest-clause-answer c =
    rw (← part_rest c.args.piece.now c.args.from)
    (stays_open _ _ _ _ _ c.requires.1 c.requires.2 c.length_before-n.ensures.0 c.min-taken.ensures c.write_text-length.ensures _ c.if-n-rest.true)

pub returns-then-n-rest-clause-line : goal.returns-then-n-rest-clause-line
returns-then-n-rest-clause-line c =
    rw (← part_rest c.args.piece.now c.args.from)
    (kept_written _ _ _ _ _ c.requires.1 c.requires.2 c.length_before-n.ensures.0 c.min-taken.ensures c.write_text-length.ensures)

pub returns-else-n-rest-clause-answer : goal.returns-else-n-rest-clause-answer
returns-else-n-rest-clause-answer c =
    rw (← part_rest c.args.piece.now c.args.from)
    (ends_line _ _ _ _ _ c.requires.1 c.requires.2 c.length_before-n.ensures.0 c.min-taken.ensures c.write_text-length.ensures _ c.if-n-rest.false)

pub returns-else-n-rest-clause-line : goal.returns-else-n-rest-clause-line
returns-else-n-rest-clause-line c =
    rw (← part_rest c.args.piece.now c.args.from)
    (kept_written _ _ _ _ _ c.requires.1 c.requires.2 c.length_before-n.ensures.0 c.min-taken.ensures c.write_text-length.ensures)
