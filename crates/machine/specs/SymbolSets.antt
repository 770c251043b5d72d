-- Sets of symbols, as the crate `symbols` has them.
pub use Rattle.symbols.specs.SymbolSets.{least_symbol, without_symbol, without_empty}
unfoldable pub use Rattle.symbols.specs.SymbolSets.{partners}
