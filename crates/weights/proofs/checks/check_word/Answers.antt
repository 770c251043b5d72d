use Rattle.std.proofs.Common.{lit<, arith}
use Rattle.refusals.proofs.Refusals.{was_true}
use Rattle.product.specs.Optimizing.{sound_word}
use Rattle.input.specs.AcceptedInput.{short_word}
use Rattle.weights.proofs.checks.check_word.Goals as goal

pub check_work-requires : goal.check_work-requires
check_work-requires c =
    (c.requires, short_word _ _ (was_true c.in_ok-check_word.was 8 (sound_word c.args.grid.symbols c.args.word.now) (lit< tt) c.check_word.ensures), omega arith)
