use Rattle.std.proofs.Common.{sym, ◌∙◌, ap, length, arith}
use Rattle.product.specs.Laws.Sets.{as_many}
use Rattle.readout.proofs.Words.{word_small, short, sets_pre}
use Rattle.optimizer.proofs.Telling.{sets_have_best, word_told}
use Rattle.optimizer.proofs.label_best.Goals as goal

pub fill_sets-requires : goal.fill_sets-requires
fill_sets-requires c = (short c.requires.0, word_small c.requires.0)

pub slice_bounds-sets-end : goal.slice_bounds-sets-end
slice_bounds-sets-end c = omega (arith, short c.requires.0, c.fill_sets.auto.sets)

pub slice_bounds-label_sets-end : goal.slice_bounds-label_sets-end
slice_bounds-label_sets-end c = sym (ap length c.fill_sets.ensures ∙ as_many c.args.word.now)

pub label_sets-requires : goal.label_sets-requires
label_sets-requires c =
    (sets_pre c.requires.0 _ c.fill_sets.ensures, c.requires.1, sets_have_best c.requires.0 _ c.fill_sets.ensures c.requires.2)

pub returns : goal.returns
returns c = word_told c.requires.0 _ c.fill_sets.ensures c.label_sets.ensures
