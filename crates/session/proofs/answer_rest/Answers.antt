use Rattle.std.specs.Prelude.{◌≡◌}
use Rattle.basics.proofs.Words.{true, sym, ◌∙◌, take, arith, length-take-le}
use Rattle.lesson.proofs.Replies.{front}
use Rattle.pieces.proofs.Closing.{some_text}
use Rattle.session.proofs.Reading.{reads_full, reads_text}
use Rattle.session.proofs.answer_rest.Goals as goal

pub slice_bounds-finish-end-2 : goal.slice_bounds-finish-end-2
slice_bounds-finish-end-2 g c = sym (length-take-le _ _ (omega (arith, c.answer_pieces-progress.ensures.answers.few, c.answer_pieces-progress.auto.line, c.requires.1)))

pub finish-requires : goal.finish-requires
finish-requires g c =
    let written : c.answer_pieces-progress.result.written ≡ true = c.if-not-printed.false in
    (omega (arith, c.requires.4), c.answer_pieces-progress.ensures.answers.fits, reads_full c.answer_pieces-progress.ensures written c.requires.3)

pub returns : goal.returns
returns g c =
    let written : c.answer_pieces-progress.result.written ≡ true = c.if-not-printed.false in
    let f = c.finish.ensures in (
      some_text c.args.card.now c.answer_pieces-progress.result.tally (take c.answer_pieces-progress.result.held c.answer_pieces-progress.new.line) f,
      record {
        read = c.answer_pieces-progress.ensures.read;
        fits = f.fits;
        text = λ h. front _ _ _ _ f.size f.bytes ∙ reads_text c.answer_pieces-progress.ensures written c.requires.3;
      },
    )
