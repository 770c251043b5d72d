use Rattle.basics.proofs.Words.{refl, rules}
use Rattle.symbols.specs.Laws.SymbolSets.{least_at}
use Rattle.symbols.proofs.sets.least.Goals as goal

pub returns : goal.returns
returns c = let l = least_at 64 c.args.set c.requires (search rules) in (refl, l.below, l.has)
