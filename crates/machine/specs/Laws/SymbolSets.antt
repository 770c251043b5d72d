-- Laws of sets of symbols, as the crate `symbols` has them.
pub use Rattle.symbols.specs.Laws.SymbolSets.{meets_one, half_below, LeastAt, member_half, least_at, without_least, below_least}
