use Rattle.std.specs.Prelude.{◌≡◌, ◌≤◌, ◌^◌}
use Rattle.basics.proofs.Words.{length, drop, all_of}
use Rattle.refusals.specs.Refusals.{refuse}
use Rattle.product.specs.OptimizingSets.{symbol_set, sets_refusal}
use Rattle.product.proofs.check_sets.Given as goal

abbrev pub invariant-loop-set : goal.invariant-loop-set
invariant-loop-set l = (l.set-index ≤ length l.sets) × (l.last ≡ 2 ^ l.symbols) × (refuse 25 (all_of (symbol_set l.symbols) (drop l.set-index l.sets)) ≡ sets_refusal l.symbols l.sets)
