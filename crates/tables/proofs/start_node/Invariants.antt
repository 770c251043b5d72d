use Rattle.std.specs.Prelude.{◌≡◌}
use Rattle.tables.proofs.start_node.Given as goal

abbrev pub invariant-loop-count : goal.invariant-loop-count
invariant-loop-count l = (l.start ≡ 0) × (l.code ≡ 0)
