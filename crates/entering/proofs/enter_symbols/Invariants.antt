use Rattle.std.specs.Prelude.{◌≡◌}
use Rattle.basics.proofs.Words.{length}
use Rattle.entering.proofs.Symbols.{SymbolsTried}
use Rattle.entering.proofs.enter_symbols.Given as goal

abbrev pub invariant-loop-left : goal.invariant-loop-left
invariant-loop-left l = SymbolsTried l.card l.weights l.initial.own l.own l.next l.symbols l.left × (length l.steps ≡ length l.initial.steps) × (length l.high ≡ length l.initial.high) × (length l.low ≡ length l.initial.low)

abbrev pub decreases-loop-left : goal.decreases-loop-left
decreases-loop-left l = l.left
