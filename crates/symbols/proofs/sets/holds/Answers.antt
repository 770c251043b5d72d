use Rattle.basics.proofs.Words.{rules}
use Rattle.symbols.specs.Laws.SymbolSets.{meets_one}
use Rattle.symbols.proofs.sets.holds.Goals as goal

pub returns : goal.returns
returns c symbol e = rw e (meets_one c.args.set symbol (search rules))
