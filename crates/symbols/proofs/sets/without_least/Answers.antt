use Rattle.std.specs.Prelude.{◌-◌}
use Rattle.basics.proofs.Words.{arith, rules}
use lib.Bits.{and_le_r}
use Rattle.symbols.specs.Laws.SymbolSets.{without_least}
use Rattle.symbols.proofs.sets.without_least.Goals as goal

pub returns : goal.returns
returns c =
    let set = c.args.set in
    (omega (arith, c.requires, and_le_r set (set - 1)), λ n. without_least 64 set n c.requires (search rules))
