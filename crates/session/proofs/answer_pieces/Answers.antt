use Rattle.basics.proofs.Words.{refl, not, arith, rules, left_fails, right_fails, not-false}
use Rattle.session.proofs.Reading.{reads_none, reads_more}
use Rattle.session.proofs.answer_pieces.Goals as goal

pub loop-init : goal.loop-init
loop-init g c =
    (reads_none _ _ _ _ c.requires.0 c.requires.2, c.requires.1, search rules, c.requires.3, refl)

pub answer_piece-progress-requires : goal.answer_piece-progress-requires
answer_piece-progress-requires g c =
    let i = c.loop.invariant in (i.0.answers.few, i.1, i.0.answers.fits, i.3, omega (arith, i.4, c.requires.4))

pub returns-then-after-written : goal.returns-then-after-written
returns-then-after-written g c =
    let i = c.loop.invariant in reads_more i.0 i.3 c.answer_piece-progress.ensures (λ w. w)

pub loop-preserved : goal.loop-preserved
loop-preserved g c =
    let i = c.loop.invariant in (
      reads_more i.0 i.3 c.answer_piece-progress.ensures (λ _. not-false c.answer_piece-progress.result.written (right_fails c.answer_piece-progress.result.tally.past (not c.answer_piece-progress.result.written) c.if-after-written.false)),
      search rules,
      search rules,
      left_fails _ _ c.if-after-written.false,
      search rules,
    )

pub returns-after-loop : goal.returns-after-loop
returns-after-loop g c = c.loop.invariant.0

pub returns-then-n-eq0 : goal.returns-then-n-eq0
returns-then-n-eq0 g c =
    c.loop.invariant.0
