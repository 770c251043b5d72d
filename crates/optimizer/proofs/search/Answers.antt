use Rattle.std.proofs.Common.{sym, ◌∙◌, ap, length, arith}
use Rattle.product.specs.Laws.Sets.{as_many}
use Rattle.readout.proofs.Words.{word_small, short, sets_pre, word_searched}
use Rattle.optimizer.proofs.search.Goals as goal

pub fill_sets-requires : goal.fill_sets-requires
fill_sets-requires g c = (short c.requires.0, word_small c.requires.0)

pub slice_bounds-sets-end : goal.slice_bounds-sets-end
slice_bounds-sets-end g c = omega (arith, short c.requires.0, c.fill_sets.auto.sets)

pub slice_bounds-search_sets-end : goal.slice_bounds-search_sets-end
slice_bounds-search_sets-end g c = sym (ap length c.fill_sets.ensures ∙ as_many c.args.word.now)

pub search_sets-requires : goal.search_sets-requires
search_sets-requires g c = (sets_pre c.requires.0 _ c.fill_sets.ensures, c.requires.1)

pub returns : goal.returns
returns g c = word_searched c.requires.0 _ c.fill_sets.ensures c.search_sets.ensures
