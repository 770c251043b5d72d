use Rattle.std.specs.Prelude.{◌≡◌, ◌&&◌, ◌+◌}
use Rattle.basics.proofs.Words.{refl, sym, ◌∙◌, ap, not, ℕ, arith, length, length-replicate, eqb, member, rules}
use Rattle.product.specs.Laws.Setting.{few_codes}
use Rattle.stage_entering.specs.Entering.{codes_at, AheadOf}
use Rattle.cull.proofs.Culling.{tables_kept, SymbolsTried, symbols_start, nodes_there, symbol_reads, input_pre, symbols_next, ahead_stays, symbols_end}
use Rattle.cull.proofs.enter_symbols.Given as goal

abbrev pub invariant-loop-left : goal.invariant-loop-left
invariant-loop-left l =
    SymbolsTried l.card l.weights l.initial.work l.work l.set l.left l.at × (length l.steps ≡ length l.initial.steps) × (length l.high ≡ length l.initial.high) × (length l.low ≡ length l.initial.low) × AheadOf l.work l.at.stage (l.at.base + codes_at l.at) (codes_at l.at) l.ahead

abbrev pub decreases-loop-left : goal.decreases-loop-left
decreases-loop-left l = l.left
