use Rattle.std.specs.Prelude.{◌≡◌, ◌<◌, ◌≤◌}
use Rattle.basics.proofs.Words.{refl, ap, sym, ◌∙◌, true, false, [], arith, length, take, drop, lit≤, length-take-le, take_at, rules, clash, left_fails, right_fails, not-false, List, ℕ}
use Rattle.lines.specs.Taking.{ended_lines, held_after}
use Rattle.lines.specs.declared.Next.TheVariants as next
use Rattle.lines.proofs.Bounds.{next_bounds}
use Rattle.tally.specs.declared.Tally.{Tally}
use Rattle.lesson.specs.Tally.{lines_tally}
use Rattle.lesson.specs.TallyLaws.{nothing_after, tally_cons, tally_none}
use Rattle.pieces.proofs.Pieces.{held_ended, held_open, first_ended, none_ended, counted_on}
use Rattle.pieces.proofs.Closing.{past_written}
use Rattle.pieces.proofs.answer_piece.Goals as goal

pub loop-whole-init : goal.loop-whole-init
loop-whole-init g c = (search rules, c.requires.0, c.requires.1, refl, c.requires.2, c.requires.3, refl, refl)

-- the line that ended fits
pub slice_bounds-print_answer-end : goal.slice_bounds-print_answer-end
slice_bounds-print_answer-end g c =
    let b = next_bounds (take c.loop-whole.length c.loop-whole.line) c.loop-whole.at c.args.piece.now c.loop-whole.invariant.0 in
    omega (arith, b.line_length _ _ (sym c.next_line-next.ensures.answer ∙ c.in-Line.is), c.loop-whole.invariant.2)

pub slice_bounds-print_answer-end-in-Line : goal.slice_bounds-print_answer-end-in-Line
slice_bounds-print_answer-end-in-Line g c =
    let b = next_bounds (take c.loop-whole.length c.loop-whole.line) c.loop-whole.at c.args.piece.now c.loop-whole.invariant.0 in
    sym (length-take-le _ _ (omega (arith, b.line_length _ _ (sym c.next_line-next.ensures.answer ∙ c.in-Line.is), c.loop-whole.invariant.2)))

pub print_answer-printed-requires : goal.print_answer-printed-requires
print_answer-printed-requires g c =
    let i = c.loop-whole.invariant in (omega (arith, i.7, c.requires.4), i.4, i.5)

-- past the thousandth line, or a write failed
pub returns-then-tally-written : goal.returns-then-tally-written
returns-then-tally-written g c =
    let past : c.print_answer-printed.result.written ≡ true → c.print_answer-printed.result.tally.past ≡ true =
    past_written c.print_answer-printed.result.tally.past c.print_answer-printed.result.written c.if-tally-written.true in
    let e = sym c.next_line-next.ensures.answer ∙ c.in-Line.is in
    record {
      few = omega arith;
      fits = c.print_answer-printed.ensures.tally.1;
      lines_counted = λ w.
          let rest = ended_lines [] (drop c.in-Line.after c.args.piece.now) in
          let t = c.print_answer-printed.ensures.tally.0 w in
          let none_more = nothing_after c.args.card.now c.loop-whole.so_far _ rest c.loop-whole.invariant.5 (sym (ap (λ (u : Tally). u.past) t) ∙ past w) in
          t
          ∙ sym none_more
          ∙ ap (λ (u : Tally). lines_tally c.args.card.now u rest) (sym t)
          ∙ counted_on c.loop-whole.line c.args.piece.now c.loop-whole.length c.loop-whole.at c.loop-whole.invariant.1 c.args.card.now c.loop-whole.so_far _ _ e c.next_line-next.ensures.line t
          ∙ c.loop-whole.invariant.6;
      bytes = λ w q. absurd (clash (past w) q);
    }

-- the next line starts later in the piece
pub loop-whole-smaller : goal.loop-whole-smaller
loop-whole-smaller g c =
    let b = next_bounds (take c.loop-whole.length c.loop-whole.line) c.loop-whole.at c.args.piece.now c.loop-whole.invariant.0 in
    let e = sym c.next_line-next.ensures.answer ∙ c.in-Line.is in
    omega (arith, b.line_after _ _ e, b.line_within _ _ e)

pub loop-whole-preserved : goal.loop-whole-preserved
loop-whole-preserved g c =
    let b = next_bounds (take c.loop-whole.length c.loop-whole.line) c.loop-whole.at c.args.piece.now c.loop-whole.invariant.0 in
    let e = sym c.next_line-next.ensures.answer ∙ c.in-Line.is in
    let wrote : c.print_answer-printed.result.written ≡ true = not-false _ (right_fails c.print_answer-printed.result.tally.past _ c.if-tally-written.false) in (
      b.line_within _ _ e,
      lit≤ tt,
      omega (arith, c.loop-whole.invariant.2),
      held_ended c.loop-whole.line c.args.piece.now c.loop-whole.length c.loop-whole.at c.loop-whole.invariant.1 _ _ e ∙ c.loop-whole.invariant.3,
      c.print_answer-printed.ensures.tally.1,
      left_fails _ _ c.if-tally-written.false,
      counted_on c.loop-whole.line c.args.piece.now c.loop-whole.length c.loop-whole.at c.loop-whole.invariant.1 c.args.card.now c.loop-whole.so_far _ _ e c.next_line-next.ensures.line (c.print_answer-printed.ensures.tally.0 wrote)
          ∙ c.loop-whole.invariant.6,
      omega (arith, c.loop-whole.invariant.7),
    )

-- the piece ends
pub returns-in-Open : goal.returns-in-Open
returns-in-Open g c =
    let e = sym c.next_line-next.ensures.answer ∙ c.in-Open.is in
    let o = held_open c.loop-whole.line c.args.piece.now c.loop-whole.length c.loop-whole.at c.loop-whole.invariant.1 _ e in
    record {
      few = (next_bounds _ _ _ c.loop-whole.invariant.0).open_length _ e;
      fits = c.loop-whole.invariant.4;
      lines_counted = λ w.
          sym (tally_none c.args.card.now c.loop-whole.so_far)
          ∙ ap (lines_tally c.args.card.now c.loop-whole.so_far) (sym (none_ended c.loop-whole.line c.args.piece.now c.loop-whole.length c.loop-whole.at c.loop-whole.invariant.1 _ e))
          ∙ c.loop-whole.invariant.6;
      bytes = λ w p. ap (take c.in-Open.bytes) c.next_line-next.ensures.line ∙ take_at _ _ _ (sym o.0) ∙ o.1 ∙ c.loop-whole.invariant.3;
    }
